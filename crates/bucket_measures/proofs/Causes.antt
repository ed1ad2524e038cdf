-- The causes of a renaming by what its steps answer: the check, and the measure.
use Rattle.std.specs.Prelude.{Result, Ok, Err}
use mathlib.Core.Path.{◌≡◌}
use mathlib.Core.Bool.{Bool, false, ◌||◌}
use mathlib.Core.List.{List, []}
use Prim.Native.Nat.{ℕ, ◌*◌, ◌/◌}
use lib.Dec.{ltb}
use lib.ListN.{length}
use Rattle.model.specs.declared.Refusal.{Refusal}
use Rattle.model.specs.declared.Refusal.TheVariants.{TooLong}
use Rattle.model.specs.keys.Key.{Key, too_long}
use Rattle.model.specs.buckets.Bucket.{entry_size}
use Rattle.model.specs.calls.Refusals.{outcome, answer}
use Rattle.model.specs.calls.BucketCalls.{bucket_causes, new_bucket, needed_bytes, bucket_long, bucket_full, rename_causes, translate_bucket_causes}
use Rattle.model.proofs.calls.Refusals.{accepted, value_is, refused, refused_by, refused_first, none_here}
use Rattle.bucket_measures.specs.Kept.{Good, long_kept}

-- ---- the check

module _ (l : List ℕ) (p q : Key) (t : Bool) (a : Result ℕ Refusal) (e : t ≡ (too_long p || too_long q)) (f : a ≡ answer (bucket_causes t l) (length l / entry_size)) where
  checked : a ≡ answer (rename_causes l p q) (length l / entry_size)
  checked = rw e at f

  -- it passes
  pub check_good : (n : ℕ) → a ≡ Ok n → Good l p q
  check_good n h = accepted (rename_causes l p q) (length l / entry_size) a checked n h

  -- or its refusal is handed on
  module _ {A : Type 0} (o : Refusal → A) (v x : A) (r : Refusal) (h : a ≡ Err r) (g : x ≡ o r) where
    pub check_refused : x ≡ outcome o (rename_causes l p q) v
    check_refused = refused_by o v x (rename_causes l p q) r (refused (rename_causes l p q) _ a checked r h) g

    -- also where more causes follow
    pub check_refused_first : (d : List ℕ) → x ≡ outcome o (translate_bucket_causes l p q d) v
    check_refused_first d = refused_first o v x (rename_causes l p q) _ r (refused (rename_causes l p q) _ a checked r h) g

-- ---- the measure

module _ (l : List ℕ) (p q : Key) (b : Result ℕ Refusal) (f : b ≡ answer (long_kept (new_bucket l p q)) (length (new_bucket l p q))) (kept : ℕ) (k : b ≡ Ok kept) where
  -- no kept entry is too long
  pub not_long : bucket_long l p q ≡ false
  not_long = none_here (bucket_long l p q) TooLong [] (accepted (long_kept (new_bucket l p q)) _ b f kept k)

  -- its count is that of the entries kept
  pub count_is : kept ≡ length (new_bucket l p q)
  count_is = value_is (long_kept (new_bucket l p q)) _ b f kept k

  -- whether so many bytes are too few for it is whether there is no room
  pub full_is : (m : ℕ) (t : Bool) → t ≡ ltb m (kept * entry_size) → bucket_full l p q m ≡ t
  unfolding needed_bytes
  full_is m t c = rw (c, count_is)
