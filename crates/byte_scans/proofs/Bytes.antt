-- The run of FF in the words of the library, and where a scan for it ends.
use mathlib.Core.Path.{◌≡◌, refl}
use mathlib.Core.List.{List, [], ◌∷◌}
use Prim.Native.Nat.{ℕ, ◌+◌, ◌≤◌}
use native.Mathlib.Omega.{arith}
use lib.Dec.{eqb}
use lib.ListN.{length, drop, drop_of_length-le}
use Rattle.std.specs.Prelude.{take_while}
use Rattle.std.proofs.lemmas.List.Sums.{take_while-cons}
use Rattle.model.specs.ranges.RangePrefix.{lcpright}

-- the bytes from the front on that are FF
pub ff_while : (a : List ℕ) → take_while (λ x. eqb x 255) a ≡ lcpright a
unfolding lcpright
ff_while [] = refl
ff_while (x ∷ a) = rw (take_while-cons (λ y. eqb y 255) x a, ff_while a)

-- what the whole list gives is the places passed and what is left: past the last byte it is the places passed
module _ (a : List ℕ) (i : ℕ) (h : i + length (lcpright (drop i a)) ≡ length (lcpright a)) where
  pub ff_end : length a ≤ i → i ≡ length (lcpright a)
  unfolding lcpright
  ff_end p = let s : length (lcpright (drop i a)) ≡ 0 = rw (drop_of_length-le a p) in omega arith
