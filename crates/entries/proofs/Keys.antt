-- The key of an entry.
use mathlib.Core.Path.{◌≡◌}
use mathlib.Core.Bool.{Bool}
use mathlib.Core.List.{List}
use Prim.Native.Nat.{ℕ, ◌<◌}
use native.Mathlib.Omega.{arith}
use lib.ListN.{length, take}
use lib.Seq.{take_all}
use Rattle.model.specs.keys.Key.{IsPrefix}
use Rattle.model.specs.records.Record.{record_size, key_bytes}
use Rattle.model.specs.buckets.Bucket.{entry_of}

module _ (e k : List ℕ) where
  -- it is that of the record at the head
  pub key_there : k ≡ key_bytes (take record_size e) → k ≡ (entry_of e).key
  unfolding entry_of
  key_there h = h

  -- which is all there is where there is less than a record
  pub key_short : k ≡ key_bytes e → length e < record_size → k ≡ (entry_of e).key
  key_short h o = key_there (rw (take_all record_size e (omega arith)) h)

-- the test of an entry's prefix is that of its key
pub prefix_told : (e k p : List ℕ) (t : Bool) → k ≡ (entry_of e).key → t ≡ IsPrefix p k → t ≡ IsPrefix p (entry_of e).key
prefix_told e k p t h g = rw (← h) g
