-- Tables that are well formed, and where in such a table a range or an element stands.
use mathlib.Core.Path.{◌≡◌, sym, ap, ◌∙◌}
use mathlib.Core.Bool.{Bool, true, false, not}
use Prim.Native.Nat.{ℕ, ◌+◌, ◌-◌, ◌≤◌, ◌<◌}
use native.Mathlib.Omega.{arith}
use borrow.Author.Tests.{ltb-true, not-false}
use lib.Dec.{ltb}
use lib.ListN.{length, take, drop}
use Rattle.model.specs.keys.Order.{Element, max, lte, lt, passes, last_place, LargestLte, LargestLt}
use Rattle.model.specs.tables.Tables.{PivotTable, pivot_at, last_pivot, ElementsAreKeys}
use Rattle.model.specs.tables.Tables.{IsStrictlySorted, WFPivots}
use Rattle.model.specs.cuts.Cuts.{strictly_between}
use Rattle.model.proofs.keys.Order.{lte_refl, lte_trans, lt_false, false_lt, lt_trans_lte, lte_trans_lt}
use Rattle.model.proofs.keys.Key.{both}
use Rattle.model.proofs.tables.Places.{place_passes, place_after, place_turn, sorted_at, within, within_place}
use Rattle.model.proofs.cuts.Between.{Within, between_slice}
-- ---- well-formed tables
use Rattle.model.proofs.tables.Routing.{wf_of, wf_sorted, wf_count, wf_all_short}

-- at least two pivots, that rise
pub record Table (pt : PivotTable) : Type 0 where
  pub sorted : IsStrictlySorted pt ≡ true
  pub many : 2 ≤ length pt

-- what WFPivots says
pub record WellFormed (pt : PivotTable) : Type 0 where
  pub table : Table pt
  pub short : ElementsAreKeys pt ≡ true

pub wf_says : (pt : PivotTable) → WFPivots pt ≡ true → WellFormed pt
wf_says pt w = record { table = record { sorted = wf_sorted pt w; many = wf_count pt w }; short = wf_all_short pt w }

-- WFPivots says no more than a well-formed table does
pub says_wf : (pt : PivotTable) → WellFormed pt → WFPivots pt ≡ true
says_wf pt w = wf_of pt w.table.sorted w.short w.table.many

-- ---- a range in a slot

-- the range from x to y rises and lies in slot i of the table
pub record Inside (pt : PivotTable) (i : ℕ) (x y : Element) : Type 0 where
  pub slot : i + 1 < length pt
  pub from : lte (pivot_at pt i) x ≡ true
  pub rises : lt x y ≡ true
  pub upto : lte y (pivot_at pt (i + 1)) ≡ true

-- a range within it lies in the same slot
pub inside_within : {pt : PivotTable} {i : ℕ} {x y : Element} (x' y' : Element) → Inside pt i x y
    → Within x y x' y' → lt x' y' ≡ true → Inside pt i x' y'
inside_within {pt} {i} {x} {y} x' y' w v h =
    record {
      slot = w.slot;
      from = lte_trans (pivot_at pt i) x x' w.from v.after;
      rises = h;
      upto = lte_trans y' y (pivot_at pt (i + 1)) v.before w.upto;
    }

-- between a pivot that passes and the next, that does not, is the place
place_slot : (strict : Bool) (e : Element) (pt : PivotTable) (i : ℕ) → IsStrictlySorted pt ≡ true → i + 1 < length pt
    → passes strict e (pivot_at pt i) ≡ true → passes strict e (pivot_at pt (i + 1)) ≡ false → last_place (passes strict e) pt ≡ i + 1
place_slot strict e pt i s h f g =
    let n : i + 1 - 1 ≡ i = omega arith in
    place_turn strict e pt (i + 1) s h (λ k. rw n f) g

module _ {pt : PivotTable} {i : ℕ} {x y : Element} (t : Table pt) (w : Inside pt i x y) where
  -- the pivots up to the slot's first are those not above the range
  place_left : last_place (passes false x) pt ≡ i + 1
  place_left =
      place_slot false x pt i t.sorted w.slot w.from
      (lt_false x (pivot_at pt (i + 1)) (lt_trans_lte x y (pivot_at pt (i + 1)) w.rises w.upto))

  -- the pivots up to the slot's first are those below the range's right end
  place_right : last_place (passes true y) pt ≡ i + 1
  place_right = place_slot true y pt i t.sorted w.slot (lte_trans_lt (pivot_at pt i) x y w.from w.rises) (ap not w.upto)

  -- the slot of a range is that of its left end
  pub inside_left : LargestLte pt x ≡ i
  unfolding LargestLte
  inside_left = omega (arith, place_left)

-- the pivots strictly between two elements stand from after the slot where the range begins to the slot where it ends
pub between_inside : {pt : PivotTable} {a b x y : Element} {i j : ℕ} → Table pt → Inside pt i a x → Inside pt j y b
    → strictly_between a b pt ≡ drop (i + 1) (take (j + 1) pt)
between_inside {pt} {a} {b} t v w = between_slice a b pt t.sorted ∙ rw (place_left t v, place_right t w)

module _ {pt : PivotTable} (t : Table pt) where
  -- the range of a slot lies in it
  pub slot_itself : (i : ℕ) → i + 1 < length pt → Inside pt i (pivot_at pt i) (pivot_at pt (i + 1))
  slot_itself i h =
      record {
        slot = h;
        from = lte_refl (pivot_at pt i);
        rises = sorted_at pt i (i + 1) t.sorted (omega arith) h;
        upto = lte_refl (pivot_at pt (i + 1));
      }

  -- of an element within the table the place is inside
  place_inside : (strict : Bool) (e : Element) → within strict e pt ≡ true
      → (0 < last_place (passes strict e) pt) × (last_place (passes strict e) pt < length pt)
  place_inside strict e h =
      let n = last_place (passes strict e) pt in
      let b = both (ltb 0 n) (ltb n (length pt)) (sym (within_place strict e pt t.sorted t.many) ∙ h) in
      (ltb-true 0 n b.0, ltb-true n (length pt) b.1)

  -- a range may begin in a slot at each element not below the first pivot, and below the last
  pub slot_from : (x : Element) → lte (pivot_at pt 0) x ≡ true → lt x (last_pivot pt) ≡ true
      → Inside pt (LargestLte pt x) x (pivot_at pt (LargestLte pt x + 1))
  unfolding LargestLte
  slot_from x h k =
      let n = last_place (passes false x) pt in
      let w = place_inside false x (rw h k) in
      let e : n - 1 + 1 ≡ n = omega arith in
      record {
        slot = rw e w.1;
        from = place_passes (passes false x) pt max w.0;
        rises = rw e (false_lt x (pivot_at pt n) (place_after (passes false x) pt max n (omega arith) w.1));
        upto = lte_refl (pivot_at pt (n - 1 + 1));
      }

  -- a range may end in a slot at each element above the first pivot, and not above the last
  pub slot_upto : (y : Element) → lt (pivot_at pt 0) y ≡ true → lte y (last_pivot pt) ≡ true
      → Inside pt (LargestLt pt y) (pivot_at pt (LargestLt pt y)) y
  unfolding LargestLt
  slot_upto y h k =
      let n = last_place (passes true y) pt in
      let w = place_inside true y (rw h (rw k)) in
      let e : n - 1 + 1 ≡ n = omega arith in
      record {
        slot = rw e w.1;
        from = lte_refl (pivot_at pt (n - 1));
        rises = place_passes (passes true y) pt max w.0;
        upto = rw e (not-false (lte y (pivot_at pt n)) (place_after (passes true y) pt max n (omega arith) w.1));
      }
