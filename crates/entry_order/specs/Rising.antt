-- For the contracts of inner functions: the causes 1, 2, 3 and 14, and pivots and a bucket without them.
use Rattle.std.specs.Prelude.{◌≡◌, Bool, true, false, not, List, [], ◌∷◌, ◌++◌, ℕ}
use Rattle.std.proofs.Math.Option.{none}
use Rattle.model.specs.declared.Refusal.TheVariants.{EntriesUnsorted}
use Rattle.model.specs.buckets.Bucket.{entries, entries_rise}
use Rattle.model.specs.calls.Refusals.{Cause, ◌⇒◌, paired, first}
use Rattle.model.specs.calls.TableCalls.{pivot_causes}
use Rattle.model.specs.calls.BucketCalls.{bucket_causes}

-- whether another argument has cause 2 comes with them
unfoldable pub rising_causes : Bool → List ℕ → List ℕ → List Cause
rising_causes wrong p l =
    paired (pivot_causes false wrong p) (bucket_causes false l) ++ ((not (entries_rise (entries l)) ⇒ EntriesUnsorted) ∷ [])

-- a bucket without them
pub record Rising (l : List ℕ) : Type 0 where
  pub read : first (bucket_causes false l) ≡ none
  pub rise : entries_rise (entries l) ≡ true

-- pivots and a bucket
pub record CheckedBoth (p l : List ℕ) : Type 0 where
  pub pivots : first (pivot_causes false false p) ≡ none
  pub bucket : Rising l
