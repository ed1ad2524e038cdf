-- Whether a renaming fits, by what the check and the measure answer.
use Rattle.std.specs.Prelude.{Result, Ok, Err}
use mathlib.Core.Path.{◌≡◌, refl, ap}
use mathlib.Core.Bool.{Bool, true, false, not, ◌||◌}
use mathlib.Core.List.{List}
use Prim.Native.Nat.{ℕ, ◌*◌}
use native.Mathlib.Omega.{arith}
use lib.Dec.{ltb}
use lib.ListN.{length}
use Rattle.model.specs.declared.Refusal.{Refusal}
use Rattle.model.specs.keys.Key.{Key}
use Rattle.model.specs.buckets.Bucket.{entry_size}
use Rattle.model.specs.calls.Refusals.{outcome, answer}
use Rattle.model.specs.calls.BucketCalls.{new_bucket, bucket_long, bucket_full, rename_causes, will_fit_answer}
use Rattle.model.proofs.calls.Refusals.{passed}
use Rattle.bucket_measures.specs.Kept.{Good, long_kept}
use Rattle.bucket_measures.proofs.Causes.{not_long, full_is}

module _ (l : List ℕ) (p q : Key) (b : Result ℕ Refusal) (f : b ≡ answer (long_kept (new_bucket l p q)) (length (new_bucket l p q))) (m : ℕ) where
  -- not where a kept entry is too long
  pub long_no : (r : Refusal) → b ≡ Err r → false ≡ not (bucket_long l p q || bucket_full l p q m)
  unfolding outcome
  long_no r k = go (bucket_long l p q) refl
    where
      go : (t : Bool) → bucket_long l p q ≡ t → false ≡ not (t || bucket_full l p q m)
      go true e = refl
      go false e = let z = rw e at f in let x : ◌≡◌ {A = ℕ} 0 1 = cc in absurd (omega arith)

  -- else where there is room for those kept
  pub fits_room : (kept : ℕ) → b ≡ Ok kept → (t : Bool) → t ≡ ltb m (kept * entry_size) → not t ≡ not (bucket_long l p q || bucket_full l p q m)
  fits_room kept k t c = rw (not_long l p q b f kept k, ← full_is l p q b f kept k m t c)

-- what is said of a good bucket is the answer
pub will_decided : (l : List ℕ) (p q : Key) (m : ℕ) (t : Bool) → Good l p q → t ≡ not (bucket_long l p q || bucket_full l p q m) → Ok t ≡ will_fit_answer l p q m
will_decided l p q m t h e = passed Err _ (Ok t) (rename_causes l p q) h (ap Ok e)
