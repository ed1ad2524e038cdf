-- Where a bound or a pivot that is produced passes 64 bytes, the call refuses with 8, unless a cause before that applies.
use Rattle.std.specs.Prelude.{Err}
use mathlib.Core.Path.{◌≡◌, refl}
use mathlib.Core.Bool.{false, ◌&&◌, and-false}
use mathlib.Core.List.{List}
use Prim.Native.Nat.{ℕ}
use Rattle.model.specs.declared.Refusal.TheVariants.{TooLong}
use Rattle.model.specs.keys.Key.{Key}
use Rattle.model.specs.tables.Tables.{all, short_element}
use Rattle.model.specs.calls.TableCalls.{pivot_causes}
use Rattle.model.specs.calls.RenamingCalls.{new_bounds, pivot_pair_causes, pivot_pair_answer, new_pivots, pivots_causes, pivots_answer}
use Rattle.model.proofs.calls.Refusals.{not_fails}
use Rattle.contracts.specs.Refuses.{RefusesAt}
use Rattle.contracts.proofs.Refusing.{refuses_at}

module _ (l : Key) (r : List ℕ) (p q : Key) (d : List ℕ) where
  -- either bound of a range
  bounds_refused : (short_element (new_bounds l r p q).left && short_element (new_bounds l r p q).right) ≡ false
      → RefusesAt Err (pivot_pair_causes l r p q d) 3 TooLong (pivot_pair_answer l r p q d)
  bounds_refused h = refuses_at _ _ (pivot_pair_causes l r p q d) 3 _ _ _ refl (not_fails _ h)

  pub left_refused : short_element (new_bounds l r p q).left ≡ false → RefusesAt Err (pivot_pair_causes l r p q d) 3 TooLong (pivot_pair_answer l r p q d)
  left_refused h = bounds_refused (rw h)

  pub right_refused : short_element (new_bounds l r p q).right ≡ false → RefusesAt Err (pivot_pair_causes l r p q d) 3 TooLong (pivot_pair_answer l r p q d)
  right_refused h = bounds_refused (rw (h, and-false))

-- a pivot
pub new_pivots_refused : (v : List ℕ) (p q : Key) (n d : List ℕ) → all short_element (new_pivots v p q n) ≡ false
    → RefusesAt Err (pivots_causes v p q n d) 4 TooLong (pivots_answer v p q n d)
unfolding pivot_causes
new_pivots_refused v p q n d h = refuses_at _ _ (pivots_causes v p q n d) 4 _ _ _ refl (not_fails _ h)
