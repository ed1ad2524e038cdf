-- The last pivot that passes, found by halving.
use mathlib.Core.Path.{◌≡◌, sym, ◌∙◌}
use mathlib.Core.Bool.{Bool, true, false}
use mathlib.Core.List.{List}
use Prim.Native.Nat.{ℕ, ◌+◌, ◌-◌, ◌/◌, ◌≤◌, ◌<◌}
use native.Mathlib.Omega.{arith}
use borrow.Author.Tests.{ltb-true, ltb-false}
use lib.Dec.{ltb}
use lib.ListN.{length}
use Rattle.model.specs.keys.Key.{Key}
use Rattle.model.specs.keys.Order.{key, passes, last_place}
use Rattle.model.specs.records.Record.{element, elements}
use Rattle.model.specs.inner.Places.{record_at}
use Rattle.model.specs.tables.Tables.{WFPivots}
use Rattle.model.proofs.tables.Places.{place_at_lem, place_most}
use Rattle.model.proofs.tables.Routing.{wf_sorted}
use Rattle.model.proofs.calls.TableCalls.{length_elements, element_at}

-- the place is not before low and not after high
pub record Between (p : List ℕ) (k : Key) (strict : Bool) (low high : ℕ) : Type 0 where
  pub within : high ≤ length p / 66
  pub from : low ≤ last_place (passes strict (key k)) (elements p)
  pub up_to : last_place (passes strict (key k)) (elements p) ≤ high

module _ (p : List ℕ) (k : Key) (strict : Bool) where
  pub between_start : Between p k strict 0 (length p / 66)
  between_start =
      let m = place_most (passes strict (key k)) (elements p) in
      record { within = omega arith; from = omega arith; up_to = omega (arith, length_elements p) }

  module _ (low high : ℕ) (w : Between p k strict low high) where
    -- a pivot passes where it stands before the place, so the one in the middle tells on which side that is
    module _ (wf : WFPivots (elements p) ≡ true) (h : low < high) (a : List ℕ) (t : Bool) (e : a ≡ record_at p (low + (high - low) / 2))
        (f : t ≡ passes strict (key k) (element a)) where
      middle : t ≡ ltb (low + (high - low) / 2) (last_place (passes strict (key k)) (elements p))
      middle =
          let l : low + (high - low) / 2 < length p / 66 = omega (arith, w.within) in
          f ∙ rw (e, ← element_at p (low + (high - low) / 2) l)
          (place_at_lem strict (key k) (elements p) (low + (high - low) / 2) (wf_sorted (elements p) wf) (omega (arith, length_elements p)))

      pub upper_half : t ≡ true → Between p k strict (low + (high - low) / 2 + 1) high
      upper_half g =
          let m = ltb-true (low + (high - low) / 2) (last_place (passes strict (key k)) (elements p)) (sym middle ∙ g) in
          record { within = w.within; from = omega (arith, m); up_to = w.up_to }

      pub lower_half : t ≡ false → Between p k strict low (low + (high - low) / 2)
      lower_half g =
          let m = ltb-false (low + (high - low) / 2) (last_place (passes strict (key k)) (elements p)) (sym middle ∙ g) in
          record { within = omega (arith, w.within); from = w.from; up_to = m }

    -- where the two meet they are the place
    pub between_end : high ≤ low → low ≡ last_place (passes strict (key k)) (elements p)
    between_end h = omega (arith, w.from, w.up_to)
