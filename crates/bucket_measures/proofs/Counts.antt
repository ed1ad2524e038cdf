-- How many entries have room, and how long the prefixes are.
use mathlib.Core.Path.{◌≡◌}
use mathlib.Core.Bool.{true, ◌||◌}
use mathlib.Core.Logic.{⊎_elim}
use Prim.Native.Nat.{ℕ, ◌*◌, ◌/◌, ◌≤◌, ◌<◌}
use native.Mathlib.Omega.{arith}
use borrow.Author.Tests.{lt-ltb, le-ltb}
use lib.Dec.{ltb}
use lib.ListN.{length}
use Rattle.model.specs.keys.Key.{Key, max_len, too_long}
use Rattle.model.specs.buckets.Bucket.{entry_size}
use Rattle.model.proofs.Lists.{le_or_lt}

-- fewer whole entries have room than are kept just where the bytes of those have none
pub fewer_fit : (n kept : ℕ) → ltb (n / entry_size) kept ≡ ltb n (kept * entry_size)
fewer_fit n kept = ⊎_elim enough few (le_or_lt kept (n / entry_size))
  where
    enough : kept ≤ n / entry_size → ltb (n / entry_size) kept ≡ ltb n (kept * entry_size)
    enough h = rw (le-ltb (n / entry_size) kept h, le-ltb n (kept * entry_size) (omega arith))

    few : n / entry_size < kept → ltb (n / entry_size) kept ≡ ltb n (kept * entry_size)
    few h = rw (lt-ltb (n / entry_size) kept h, lt-ltb n (kept * entry_size) (omega arith))

module _ (p q : Key) where
  -- the prefix has more than 64 bytes
  pub long_prefix : max_len < length p → true ≡ (too_long p || too_long q)
  long_prefix h = rw (lt-ltb max_len (length p) h)

  -- or the new one has
  pub long_new : length p ≤ max_len → too_long q ≡ (too_long p || too_long q)
  long_new h = rw (le-ltb max_len (length p) h)
