-- Keys that are pivots, and keys that can become one: such a key lies strictly inside a slot, which is its route and the slot of both its cuts.
use mathlib.Core.Path.{◌≡◌, refl, sym, ◌∙◌}
use mathlib.Core.Logic.{◌⊎◌, inl, inr, ⊎_elim}
use mathlib.Core.Bool.{Bool, true, false, or-true, and-false, true≢false}
use mathlib.Core.List.{[], ◌∷◌}
use Prim.Native.Nat.{ℕ, zero, suc, ◌+◌, ◌-◌, ◌≤◌, ◌<◌}
use native.Mathlib.Omega.{arith}
use borrow.Author.Tests.{not-false}
use lib.ListN.{length}
use Rattle.model.specs.keys.Key.{Key}
use Rattle.model.specs.keys.Order.{Element, key, max, lte, lt, same, passes, last_place}
use Rattle.model.specs.tables.Tables.{PivotTable, NumBuckets, pivot_at, last_pivot, WFPivots, ContainsRange, BoundedKey, ValidLeftCutOffKey, Route, CutoffForLeft, CutoffForRight, PivotInsertable, is_pivot}
use Rattle.model.specs.cuts.Sides.{inside, cutoff}
use Rattle.model.proofs.Lists.{le_or_lt}
use Rattle.model.proofs.keys.Order.{lt_false, false_lt, lt_lte, lte_antisym, lte_trans, lt_trans_lte, lte_trans_lt}
use Rattle.model.proofs.keys.Key.{both}
use Rattle.model.proofs.tables.Places.{sorted_lte, place_most, place_passes, place_after}
use Rattle.model.proofs.tables.Insertable.{gap_insertable}
use Rattle.model.proofs.tables.Routing.{wf_sorted, wf_count, route_inside, route_from, route_upper, route_below, slot_bounded, slot_is_route, cutoff_right_is_route, cutoff_left_lower, cutoff_left_reaches, cutoff_left_valid, cutoff_left_is}

-- ---- which keys are pivots

module _ (k : Key) where
  -- a pivot that is the key makes it one
  pub pivot_is : (pt : PivotTable) (i : ℕ) → i < length pt → same (pivot_at pt i) (key k) ≡ true → is_pivot pt k ≡ true
  unfolding is_pivot
  pivot_is [] i h e = absurd (omega arith)
  pivot_is (p ∷ pt) zero h e = rw e
  pivot_is (p ∷ pt) (suc i) h e = rw (pivot_is pt i (omega arith) e) (or-true (same p (key k)))

  -- where none is, it is none
  pub no_pivot : (pt : PivotTable) → ((i : ℕ) → i < length pt → same (pivot_at pt i) (key k) ≡ false) → is_pivot pt k ≡ false
  unfolding is_pivot
  no_pivot [] f = refl
  no_pivot (p ∷ pt) f = rw (f 0 (omega arith)) (no_pivot pt (λ i h. f (suc i) (omega arith)))

  -- a key that is no pivot is not the pivot at any place
  pub not_pivot : (pt : PivotTable) (i : ℕ) → i < length pt → is_pivot pt k ≡ false → same (pivot_at pt i) (key k) ≡ false
  not_pivot pt i h f = go (same (pivot_at pt i) (key k)) refl
    where
      go : (t : Bool) → same (pivot_at pt i) (key k) ≡ t → t ≡ false
      go true e = absurd (true≢false (sym (pivot_is pt i h e) ∙ f))
      go false e = refl

-- elements that are not the same, one not above the other
below : (a b : Element) → same a b ≡ false → lte a b ≡ true → lt a b ≡ true
below a b f h = false_lt a b (rw h at f)

above : (a b : Element) → same a b ≡ false → lte b a ≡ true → lt b a ≡ true
above a b f h = go (lte a b) refl
  where
    go : (t : Bool) → lte a b ≡ t → lt b a ≡ true
    go true e = absurd (true≢false (sym h ∙ rw e at f))
    go false e = false_lt b a e

-- elements one below the other are not the same
below_differs : (a b : Element) → lt a b ≡ true → same a b ≡ false
below_differs a b h = rw (lt_lte a b h) (lt_false a b h)

above_differs : (a b : Element) → lt b a ≡ true → same a b ≡ false
above_differs a b h = rw (lt_false b a h)

-- ---- a key strictly inside a slot

-- the key lies strictly inside slot i
pub record Strictly (pt : PivotTable) (i : ℕ) (k : Key) : Type 0 where
  pub slot : i + 1 < length pt
  pub from : lt (pivot_at pt i) (key k) ≡ true
  pub upto : lt (key k) (pivot_at pt (i + 1)) ≡ true

module _ (pt : PivotTable) (k : Key) (w : WFPivots pt ≡ true) where
  -- a key of the range, no pivot, lies strictly inside its slot
  pub new_strictly : ContainsRange pt (key k) (key k) ≡ true → is_pivot pt k ≡ false → Strictly pt (Route pt k) k
  unfolding ContainsRange BoundedKey
  new_strictly h f = record { slot = omega (arith, route_inside pt k w b); from = differs; upto = route_below pt k w b }
    where
      ends : (lte (pivot_at pt 0) (key k) ≡ true) × (lte (key k) (last_pivot pt) ≡ true)
      ends = both _ _ h

      last : lt (key k) (last_pivot pt) ≡ true
      last = let n = wf_count pt w in above (last_pivot pt) (key k) (not_pivot k pt (NumBuckets pt) (omega arith) f) ends.1

      b : BoundedKey pt k ≡ true
      b = rw ends.0 last

      differs : lt (pivot_at pt (Route pt k)) (key k) ≡ true
      differs =
          below (pivot_at pt (Route pt k)) (key k) (not_pivot k pt (Route pt k) (omega (arith, route_inside pt k w b)) f)
          (route_from pt k w b)

  module _ (i : ℕ) (g : Strictly pt i k) where
    -- its slot is its route
    pub strictly_route : i ≡ Route pt k
    strictly_route =
        slot_is_route pt k w i (omega (arith, g.slot)) (lt_lte (pivot_at pt i) (key k) g.from) g.upto

    -- both cuts at a key strictly in a slot cut that slot
    pub strictly_cutoff : (left : Bool) → cutoff left pt k ≡ i
    strictly_cutoff true = sym (cutoff_left_is pt k w i (omega (arith, g.slot)) g.from (lt_lte (key k) (pivot_at pt (i + 1)) g.upto))
    strictly_cutoff false = cutoff_right_is_route pt k ∙ sym strictly_route

    -- which are accepted
    pub strictly_inside : (left : Bool) → inside left pt k ≡ true
    strictly_inside true = cutoff_left_valid pt k w i (omega (arith, g.slot)) g.from (lt_lte (key k) (pivot_at pt (i + 1)) g.upto)
    strictly_inside false = slot_bounded pt k w i (omega (arith, g.slot)) (lt_lte (pivot_at pt i) (key k) g.from) g.upto

    -- the key can be inserted behind the slot's first pivot
    pub strictly_insertable : PivotInsertable pt (i + 1) k ≡ true
    strictly_insertable =
        let q : i + 1 - 1 ≡ i = omega arith in
        gap_insertable pt (i + 1) k (wf_sorted pt w) (wf_count pt w)
        (record { inside = omega (arith, g.slot); left = λ _. rw q g.from; right = λ _. g.upto })

    -- it is of the range
    pub strictly_contained : ContainsRange pt (key k) (key k) ≡ true
    unfolding ContainsRange
    strictly_contained =
        let s = g.slot in
        let a = sorted_lte pt 0 i (wf_sorted pt w) (omega arith) (omega arith) in
        let b = sorted_lte pt (i + 1) (NumBuckets pt) (wf_sorted pt w) (omega arith) (omega arith) in
        rw (lte_trans (pivot_at pt 0) (pivot_at pt i) (key k) a (lt_lte (pivot_at pt i) (key k) g.from))
        (lte_trans (key k) (pivot_at pt (i + 1)) (last_pivot pt) (lt_lte (key k) (pivot_at pt (i + 1)) g.upto) b)

    -- a key strictly in a slot is no pivot
    pub strictly_new : is_pivot pt k ≡ false
    strictly_new = no_pivot k pt (λ j h. ⊎_elim (before j h) (after j h) (le_or_lt j i))
      where
        before : (j : ℕ) → j < length pt → j ≤ i → same (pivot_at pt j) (key k) ≡ false
        before j h l =
            let s = g.slot in
            below_differs (pivot_at pt j) (key k)
            (lte_trans_lt (pivot_at pt j) (pivot_at pt i) (key k) (sorted_lte pt j i (wf_sorted pt w) l (omega arith)) g.from)

        after : (j : ℕ) → j < length pt → i < j → same (pivot_at pt j) (key k) ≡ false
        after j h l =
            above_differs (pivot_at pt j) (key k)
            (lt_trans_lte (key k) (pivot_at pt (i + 1)) (pivot_at pt j) g.upto (sorted_lte pt (i + 1) j (wf_sorted pt w) (omega arith) h))

-- ---- a key that is a pivot

-- its place
find_pivot : (k : Key) (pt : PivotTable) {C : Type 0} → is_pivot pt k ≡ true → ((i : ℕ) → i < length pt → same (pivot_at pt i) (key k) ≡ true → C) → C
unfolding is_pivot
find_pivot k [] h f = absurd (true≢false (sym h))
find_pivot k (p ∷ pt) {C} h f = go (same p (key k)) refl (λ g. find_pivot k pt g (λ i l. f (suc i) (omega arith)))
  where
    go : (t : Bool) → same p (key k) ≡ t → (is_pivot pt k ≡ true → C) → C
    go true e g = f 0 (omega arith) e
    go false e g = g (rw e at h)

module _ (pt : PivotTable) (k : Key) (w : WFPivots pt ≡ true) (h : is_pivot pt k ≡ true) where
  -- it stands behind the slot of the left cut
  pub pivot_left : ValidLeftCutOffKey pt k ≡ true → key k ≡ pivot_at pt (CutoffForLeft pt k + 1)
  pivot_left v = find_pivot k pt h (λ i l e. at i l (both _ _ e) (le_or_lt i (CutoffForLeft pt k)))
    where
      at : (i : ℕ) → i < length pt → (lte (pivot_at pt i) (key k) ≡ true) × (lte (key k) (pivot_at pt i) ≡ true) → (i ≤ CutoffForLeft pt k) ⊎ (CutoffForLeft pt k < i)
          → key k ≡ pivot_at pt (CutoffForLeft pt k + 1)
      at i l e (inl m) = absurd (true≢false (sym e.1 ∙ lt_false (pivot_at pt i) (key k) (cutoff_left_lower pt k w v i m)))
      at i l e (inr m) =
          let s = sorted_lte pt (CutoffForLeft pt k + 1) i (wf_sorted pt w) (omega arith) l in
          lte_antisym (key k) (pivot_at pt (CutoffForLeft pt k + 1)) (cutoff_left_reaches pt k w v)
          (lte_trans (pivot_at pt (CutoffForLeft pt k + 1)) (pivot_at pt i) (key k) s e.0)

  -- a pivot begins the slot of the right cut at it
  pub pivot_right : BoundedKey pt k ≡ true → key k ≡ pivot_at pt (CutoffForRight pt k)
  pivot_right v = rw (cutoff_right_is_route pt k) (find_pivot k pt h (λ i l e. at i l (both _ _ e) (le_or_lt i (Route pt k))))
    where
      at : (i : ℕ) → i < length pt → (lte (pivot_at pt i) (key k) ≡ true) × (lte (key k) (pivot_at pt i) ≡ true) → (i ≤ Route pt k) ⊎ (Route pt k < i)
          → key k ≡ pivot_at pt (Route pt k)
      at i l e (inl m) =
          let s = sorted_lte pt i (Route pt k) (wf_sorted pt w) m (omega (arith, route_inside pt k w v)) in
          lte_antisym (key k) (pivot_at pt (Route pt k)) (lte_trans (key k) (pivot_at pt i) (pivot_at pt (Route pt k)) e.1 s) (route_from pt k w v)
      at i l e (inr m) = absurd (true≢false (sym e.0 ∙ lt_false (key k) (pivot_at pt i) (route_upper pt k w v i m l)))

-- ---- the slot of a key by the number of the pivots that are not above it

module _ (pt : PivotTable) (k : Key) (w : WFPivots pt ≡ true) (n : ℕ) (e : n ≡ last_place (passes false (key k)) pt) where
  -- where there is none, the key is below the first
  pub before_range : n ≡ 0 → ContainsRange pt (key k) (key k) ≡ false
  unfolding ContainsRange
  before_range z =
      let m = wf_count pt w in
      rw (place_after (passes false (key k)) pt max 0 (omega arith) (omega arith))

  module _ (h : 0 < n) where
    -- the last of them is not above the key
    from : lte (pivot_at pt (n - 1)) (key k) ≡ true
    from = rw e (place_passes (passes false (key k)) pt max (omega arith))

    most : n ≤ length pt
    most = rw e (place_most (passes false (key k)) pt)

    -- it is the key: then that is a pivot of the range
    module _ (f : lt (pivot_at pt (n - 1)) (key k) ≡ false) where
      pub at_pivot : is_pivot pt k ≡ true
      at_pivot =
          let m = most in
          pivot_is k pt (n - 1) (omega arith) (rw from (not-false (lte (key k) (pivot_at pt (n - 1))) f))

      pub at_pivot_contained : ContainsRange pt (key k) (key k) ≡ true
      unfolding ContainsRange
      at_pivot_contained =
          let m = most in
          let a = sorted_lte pt 0 (n - 1) (wf_sorted pt w) (omega arith) (omega arith) in
          let b = sorted_lte pt (n - 1) (NumBuckets pt) (wf_sorted pt w) (omega arith) (omega arith) in
          rw (lte_trans (pivot_at pt 0) (pivot_at pt (n - 1)) (key k) a from)
          (lte_trans (key k) (pivot_at pt (n - 1)) (last_pivot pt) (not-false (lte (key k) (pivot_at pt (n - 1))) f) b)

    -- it is below the key
    module _ (f : lt (pivot_at pt (n - 1)) (key k) ≡ true) where
      -- where that pivot is the last, the key is above all
      pub past_range : n ≡ length pt → ContainsRange pt (key k) (key k) ≡ false
      unfolding ContainsRange
      past_range z = rw (lt_false (last_pivot pt) (key k) (rw z at f)) (and-false (lte (pivot_at pt 0) (key k)))

      -- where that pivot isn't the last, the key lies strictly in its slot
      pub in_slot : (n ≡ length pt → ⊥) → Strictly pt (n - 1) k
      in_slot z =
          let m = most in
          let q : n - 1 + 1 ≡ n = omega arith in
          record {
            slot = omega arith;
            from = f;
            upto = rw q (false_lt (key k) (pivot_at pt n) (place_after (passes false (key k)) pt max n (omega arith) (omega arith)));
          }
