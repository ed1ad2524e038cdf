-- A prefix in an array of 64 bytes.
use mathlib.Core.Path.{◌≡◌, ap, ◌∙◌}
use mathlib.Core.List.{List}
use Prim.Native.Nat.{ℕ, zero, suc, ◌-◌}
use native.Mathlib.Omega.{arith}
use lib.ListN.{drop}
use Rattle.model.specs.records.Record.{zeros, padded}
use Rattle.model.specs.inner.Written.{clipped, into}
use Rattle.model.specs.calls.Refusals.{over}

-- what is left of zeros is zeros
pub drop_zeros : (n k : ℕ) → drop k (zeros n) ≡ zeros (n - k)
drop_zeros n zero = let e : n ≡ n - 0 = omega arith in ap zeros e
drop_zeros zero (suc k) = let e : 0 ≡ 0 - suc k = omega arith in ap zeros e
drop_zeros (suc n) (suc k) = let e : n - k ≡ suc n - suc k = omega arith in drop_zeros n k ∙ ap zeros e

-- k copied over zeros is k, as far as there is room, and zeros after it
pub copied : (k m : List ℕ) → m ≡ into k (zeros 64) → m ≡ padded (clipped k)
unfolding clipped into over
copied k m e = e ∙ rw drop_zeros
