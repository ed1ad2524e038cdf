-- A turn and the ends of the scan for the first byte that differs. Its invariant says that what the whole gives is the places passed and what is left.
use mathlib.Core.Path.{◌≡◌, refl, ap}
use mathlib.Core.Logic.{⊎_elim}
use mathlib.Core.Bool.{true, ◌&&◌}
use mathlib.Core.List.{List, [], ◌∷◌}
use Prim.Native.Nat.{ℕ, suc, ◌+◌, ◌≤◌, ◌<◌, min}
use native.Mathlib.Omega.{arith}
use borrow.Author.Tests.{eq-eqb, ne_eqb}
use lib.Dec.{eqb}
use lib.ListN.{length, drop, get_or, drop_of_length-le}
use Rattle.std.specs.List.{list_all}
use Rattle.model.specs.keys.Key.{IsPrefix, common_run}
use Rattle.model.specs.records.Record.{all_zero}
use Rattle.model.proofs.Lists.{drop_step, le_or_lt}
use Rattle.model.proofs.keys.Key.{prefix_common}

-- ---- the common run

common_nil : (a : List ℕ) → common_run a [] ≡ []
unfolding common_run
common_nil [] = refl
common_nil (x ∷ a) = refl

module _ (a b : List ℕ) (i from : ℕ) (h : i + length (common_run (drop i a) (drop i b)) ≡ from + length (common_run (drop from a) (drop from b))) where
  pub common_turn : (n : ℕ) → i < n → n ≤ length a → n ≤ length b → get_or a i 0 ≡ get_or b i 0
      → i + 1 + length (common_run (drop (i + 1) a) (drop (i + 1) b)) ≡ from + length (common_run (drop from a) (drop from b))
  unfolding common_run
  common_turn n p q r e =
      let s : length (common_run (drop i a) (drop i b)) ≡ suc (length (common_run (drop (i + 1) a) (drop (i + 1) b))) =
      rw (drop_step a i (omega arith), drop_step b i (omega arith), eq-eqb (get_or a i 0) (get_or b i 0) e) in
      omega arith

  pub common_differ : (n : ℕ) → n ≡ min (length a) (length b) → i < n → (get_or a i 0 ≡ get_or b i 0 → ⊥) → i ≡ from + length (common_run (drop from a) (drop from b))
  unfolding common_run
  common_differ n m p e =
      let s : length (common_run (drop i a) (drop i b)) ≡ 0 =
      rw (drop_step a i (omega arith), drop_step b i (omega arith), ne_eqb (get_or a i 0) (get_or b i 0) e) in
      omega arith

  pub common_end : (n : ℕ) → n ≡ min (length a) (length b) → n ≤ i → i ≡ from + length (common_run (drop from a) (drop from b))
  unfolding common_run
  common_end n e p =
      ⊎_elim
      (λ (q : length a ≤ i). let s : length (common_run (drop i a) (drop i b)) ≡ 0 = rw (drop_of_length-le a q) in omega arith)
      (λ (q : i < length a).
      let r : length b ≤ i = omega arith in
      let s : length (common_run (drop i a) (drop i b)) ≡ 0 = rw (drop_of_length-le b r, common_nil) in
      omega arith)
      (le_or_lt (length a) i)

-- a key begins with p where the common run is all of p
pub prefix_run : (p k : List ℕ) (n : ℕ) → n ≡ length (common_run p k) → eqb n (length p) ≡ IsPrefix p k
prefix_run p k n e = rw (e, prefix_common)

-- zeros as the library tests them
pub zero_all : (a : List ℕ) → list_all (λ x. eqb x 0) a ≡ all_zero a
unfolding all_zero
zero_all [] = refl
zero_all (x ∷ a) = ap (◌&&◌ (eqb x 0)) (zero_all a)

-- past the end there are none but zeros
pub zero_end : (a : List ℕ) (i : ℕ) → length a ≤ i → true ≡ all_zero (drop i a)
unfolding all_zero
zero_end a i p = rw (drop_of_length-le a p)
