-- The walk down a prefix by a signed index, from its last byte to -1.
use mathlib.Core.Path.{◌≡◌, refl, sym, ◌∙◌}
use mathlib.Core.Bool.{true, false, true≢false, false≢true}
use Prim.Native.Nat.{ℕ, zero, suc, ◌≤◌, ◌<◌}
use native.Mathlib.Omega.{arith}
use borrow.Author.Tests.{eq-eqb, ne_eqb}
use lib.Dec.{T, lit<, leb-zero}
use lib.IntN.{ℤ, pos, pred_ℤ, nat_abs, ◌+ℤ◌, ◌-ℤ◌, -ℤ_one, -ℤ-+ℤ_cancel}
use lib.Signed.{le_z, non_neg}
use mir.Syntax.{w64}
use mir.Val.{Fits, SFits, to_z, of_z}
use mir.Facts.{to_z-of_z}
use lib.ListN.{length, get_or}
use Rattle.model.specs.keys.Key.{Key}
use Rattle.upper_bound.specs.Walk.{up_to_other}

-- i is the index of the last of n bytes, and those after them are all FF
pub record Last (p : Key) (i : ℤ) (n : ℕ) : Type 0 where
  pub within : n ≤ length p
  pub here : i ≡ pred_ℤ (pos n)
  pub same : up_to_other p n ≡ up_to_other p (length p)

-- the loop's invariant
pub record Down (p : Key) (i : ℤ) : Type 0 where
  pub left : ℕ
  pub last : Last p i left

-- one less than a count of bytes is a signed number
pub below_fits : (n : ℕ) → n ≤ 64 → SFits w64 (pred_ℤ (pos n))
below_fits zero h = record { sfits = lit< tt }
below_fits (suc n) h = record { sfits = omega arith }

module _ (p : Key) (small : length p ≤ 64) where
  down_to : (n : ℕ) → n ≤ length p → up_to_other p n ≡ up_to_other p (length p) → Down p (pred_ℤ (pos n))
  down_to n h e = record { left = n; last = record { within = h; here = refl; same = e } }

  pub count_fits : SFits w64 (pos (length p))
  count_fits = record { sfits = omega arith }

  pub start_fits : SFits w64 (pos (length p) -ℤ pos 1)
  start_fits = rw -ℤ_one (below_fits (length p) small)

  pub down_start : Down p (pos (length p) -ℤ pos 1)
  down_start = rw -ℤ_one (down_to (length p) (omega arith) refl)

  module _ (i : ℤ) (d : Down p i) where
    pub down_end : le_z (pos 0) i ≡ false → i ≡ pred_ℤ (pos (up_to_other p (length p)))
    unfolding up_to_other
    down_end t = go d.left d.last
      where
        go : (n : ℕ) → Last p i n → i ≡ pred_ℤ (pos (up_to_other p (length p)))
        go zero l = rw (l.here, ← l.same)
        go (suc n) l = absurd (true≢false (sym (leb-zero n) ∙ (rw l.here at t)))

    module _ (t : le_z (pos 0) i ≡ true) where
      at : (j : ℕ) × Last p i (suc j)
      at = go d.left d.last
        where
          go : (n : ℕ) → Last p i n → (j : ℕ) × Last p i (suc j)
          go zero l = absurd (false≢true (rw l.here at t))
          go (suc n) l = (n, l)

      is : i ≡ pos at.0
      is = at.1.here

      pub index_sign : T (non_neg i)
      index_sign = rw is tt

      pub index_inside : nat_abs i < length p
      index_inside = rw is at.1.within

      pub index_fits : Fits w64 (nat_abs i)
      index_fits = record { fits = omega (arith, index_inside) }

      pub next_fits : SFits w64 (i -ℤ pos 1)
      next_fits = let l = at.1.within in rw (is, -ℤ_one) (below_fits at.0 (omega arith))

      pub next_less : nat_abs ((i -ℤ pos 1) +ℤ pos 1) < nat_abs (i +ℤ pos 1)
      next_less = rw (is, -ℤ-+ℤ_cancel) (omega arith)

      -- a byte that isn't FF ends the walk, and FF is passed
      pub down_found : (get_or p (nat_abs i) 0 ≡ 255 → ⊥) → i ≡ pred_ℤ (pos (up_to_other p (length p)))
      unfolding up_to_other
      down_found h = rw (is, ← at.1.same, ne_eqb (get_or p at.0 0) 255 (rw is at h))

      pub down_turn : get_or p (nat_abs i) 0 ≡ 255 → Down p (i -ℤ pos 1)
      unfolding up_to_other
      down_turn h =
          let l = at.1 in
          let e : up_to_other p at.0 ≡ up_to_other p (length p) = rw (eq-eqb (get_or p at.0 0) 255 (rw is at h)) at l.same in
          rw (is, -ℤ_one) (down_to at.0 (omega (arith, l.within)) e)

      -- the same of the index as it is kept
      pub down_kept : get_or p (nat_abs i) 0 ≡ 255 → Down p (to_z w64 (of_z w64 (i -ℤ pos 1)))
      down_kept h = rw (to_z-of_z next_fits) (down_turn h)

pub ruleset walk = (count_fits, start_fits, down_start, down_end, index_sign, index_inside, index_fits, next_fits, next_less, down_found, down_kept)
