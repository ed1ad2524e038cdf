-- A turn and the end of a loop that writes bytes.
use mathlib.Core.Path.{◌≡◌, ap}
use mathlib.Core.List.{List, ◌++◌}
use Prim.Native.Nat.{ℕ, ◌+◌, ◌≤◌, ◌<◌, min}
use native.Mathlib.Numerals.{add-one}
use native.Mathlib.Omega.{arith}
use lib.ListN.{length, take, drop, get_or, set, length-take}
use lib.Seq.{take-suc, set_at, append_snoc, length-take-le}
use Rattle.model.specs.calls.Refusals.{over}
use Rattle.model.specs.inner.Written.{into}
use Rattle.model.proofs.Lists.{drop_step, take_min}

-- a byte more of s, over d₀
module _ (s d₀ d : List ℕ) (i n : ℕ) (h : d ≡ take i s ++ drop i d₀) where
  pub copy_turn : i < n → n ≤ length s → n ≤ length d₀ → set d i (get_or s i 0) ≡ take (i + 1) s ++ drop (i + 1) d₀
  copy_turn p q r =
      let f : length (take i s) ≡ i = length-take-le i s (omega arith) in
      let j : i < length d₀ = omega arith in
      let k : i < length s = omega arith in
      rw (h, drop_step d₀ i j, set_at (take i s) (get_or d₀ i 0) (drop (i + 1) d₀) (get_or s i 0) i f, add-one, take-suc s i 0 k, append_snoc)

  pub copy_end : i ≤ n → n ≤ i → n ≡ min (length s) (length d₀) → d ≡ into s d₀
  unfolding into over
  copy_end p q e =
      let f : i ≡ min (length d₀) (length s) = omega arith in
      rw (h, length-take, ← f) (rw f (ap (λ (t : List ℕ). t ++ drop (min (length d₀) (length s)) d₀) (take_min (length d₀) s)))
