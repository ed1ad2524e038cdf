-- Well-formed pivot tables: each bounded key lies in one slot, which is its route; the slot of a left cut-off; which keys a table bounds.
use mathlib.Core.Path.{◌≡◌, refl, sym, ap, ◌∙◌}
use mathlib.Core.Bool.{Bool, true, false, not, ◌&&◌, true≢false, false≢true}
use mathlib.Core.List.{[], ◌∷◌}
use Prim.Native.Nat.{ℕ, ◌+◌, ◌-◌, ◌≤◌, ◌<◌}
use native.Mathlib.Nat.{le_refl}
use native.Mathlib.Omega.{arith}
use borrow.Author.Tests.{ltb-true, lt-ltb, le-ltb, leb-true, le-leb, not-false}
use lib.Dec.{ltb, leb}
use lib.ListN.{length, take}
use Rattle.model.specs.keys.Key.{Key, max_len}
use Rattle.model.specs.keys.Order.{Element, key, max, is_key, lte_key, lte, lt, same, passes, last_place, LargestLte, LargestLt}
use Rattle.model.specs.ranges.RangePrefix.{InBetween}
use Rattle.model.specs.tables.Tables.{PivotTable, pivot_at, last_pivot, NumBuckets, all, short_element, min_pivots, rises_from, IsStrictlySorted, WFPivots}
use Rattle.model.specs.tables.Tables.{InitPivotTable, ContainsAllKeys, ContainsRange}
use Rattle.model.specs.tables.Tables.{BoundedKey, ValidLeftCutOffKey, Route, CutoffForLeft, CutoffForRight, key_of, GetKey}
use Rattle.model.proofs.Lists.{all_at}
use Rattle.model.proofs.keys.Order.{lte_refl, lte_trans, lte_max, lt_false, false_lt, lt_lte, lt_trans_lte, below_key, max_above}
use Rattle.model.proofs.tables.Places.{sorted_head, sorted_tail, sorted_at, place_turn, place_at_lem, place_le, passes_more, within, within_place, bounded_within, valid_within}
use Rattle.model.proofs.keys.Key.{both}

-- ---- what a well-formed table is

-- each pivot but the last of a table whose pivots rise strictly is a key
sorted_keys : (p : Element) (pt : PivotTable) → IsStrictlySorted (p ∷ pt) ≡ true → all is_key (take (length pt) (p ∷ pt)) ≡ true
unfolding all
sorted_keys p [] s = refl
sorted_keys p (q ∷ pt) s = rw (below_key p q (sorted_head p q pt s)) (sorted_keys q pt (sorted_tail p (q ∷ pt) s))

-- a table of two pivots or more that rise strictly, none too long, is well formed
pub wf_of : (pt : PivotTable) → IsStrictlySorted pt ≡ true → all short_element pt ≡ true → 2 ≤ length pt → WFPivots pt ≡ true
unfolding WFPivots
wf_of [] s h k = absurd (omega arith)
wf_of (p ∷ pt) s h k =
    let n : length (p ∷ pt) - 1 ≡ length pt = omega arith in
    rw (s, n, sorted_keys p pt s, h, le-leb min_pivots (length (p ∷ pt)) k)

module _ (pt : PivotTable) (w : WFPivots pt ≡ true) where
  -- the last two of its four parts, each with what comes before it
  but_count : ((IsStrictlySorted pt && all is_key (take (NumBuckets pt) pt) && all short_element pt) ≡ true) × (leb min_pivots (length pt) ≡ true)
  unfolding WFPivots
  but_count = both (IsStrictlySorted pt && all is_key (take (NumBuckets pt) pt) && all short_element pt) (leb min_pivots (length pt)) w

  but_short : ((IsStrictlySorted pt && all is_key (take (NumBuckets pt) pt)) ≡ true) × (all short_element pt ≡ true)
  but_short = both (IsStrictlySorted pt && all is_key (take (NumBuckets pt) pt)) (all short_element pt) but_count.0

  -- its pivots rise strictly
  pub wf_sorted : IsStrictlySorted pt ≡ true
  wf_sorted = (both (IsStrictlySorted pt) (all is_key (take (NumBuckets pt) pt)) but_short.0).0

  -- each pivot is max or has at most 64 bytes
  pub wf_all_short : all short_element pt ≡ true
  wf_all_short = but_short.1

  -- it has two pivots or more
  pub wf_count : 2 ≤ length pt
  wf_count = leb-true min_pivots (length pt) but_count.1

  -- each pivot but the last is a key
  pub wf_keys : (i : ℕ) → i < NumBuckets pt → is_key (pivot_at pt i) ≡ true
  wf_keys i h = below_key (pivot_at pt i) (pivot_at pt (i + 1)) (sorted_at pt i (i + 1) wf_sorted (omega arith) (omega arith))

  -- the pivot at a place is max or has at most 64 bytes
  pub wf_short : (i : ℕ) → i < length pt → short_element (pivot_at pt i) ≡ true
  wf_short i h = all_at short_element pt i max refl wf_all_short

-- ---- slots, by either test

module _ (strict : Bool) (e : Element) (pt : PivotTable) (w : WFPivots pt ≡ true) where
  -- one more than the slot
  abbrev place : ℕ
  place = last_place (passes strict e) pt

  module _ (h : within strict e pt ≡ true) where
    inner : (0 < place) × (place < length pt)
    inner =
        let b = both (ltb 0 place) (ltb place (length pt)) (sym (within_place strict e pt (wf_sorted pt w) (wf_count pt w)) ∙ h) in
        (ltb-true 0 place b.0, ltb-true place (length pt) b.1)

    slot_inside : place - 1 < NumBuckets pt
    slot_inside = let i = inner in omega arith

    slot_lower : (i : ℕ) → i ≤ place - 1 → passes strict e (pivot_at pt i) ≡ true
    slot_lower i k =
        let b = inner in
        place_at_lem strict e pt i (wf_sorted pt w) (omega arith) ∙ lt-ltb i place (omega arith)

    slot_upper : (i : ℕ) → place - 1 < i → i < length pt → passes strict e (pivot_at pt i) ≡ false
    slot_upper i k l = place_at_lem strict e pt i (wf_sorted pt w) l ∙ le-ltb i place (omega arith)

  module _ (i : ℕ) (h : i < NumBuckets pt) (f : passes strict e (pivot_at pt i) ≡ true) (g : passes strict e (pivot_at pt (i + 1)) ≡ false) where
    slot_place : place ≡ i + 1
    slot_place =
        let q : i + 1 - 1 ≡ i = omega arith in
        place_turn strict e pt (i + 1) (wf_sorted pt w) (omega arith) (λ k. rw q f) g

    slot_within : within strict e pt ≡ true
    slot_within =
        within_place strict e pt (wf_sorted pt w) (wf_count pt w)
        ∙ rw (slot_place, lt-ltb 0 (i + 1) (omega arith), lt-ltb (i + 1) (length pt) (omega arith))

-- ---- Route and CutoffForRight

module _ (pt : PivotTable) (k : Key) (w : WFPivots pt ≡ true) where
  module _ (b : BoundedKey pt k ≡ true) where
    bounded : within false (key k) pt ≡ true
    bounded = sym (bounded_within pt k) ∙ b

    -- a bounded key's route is a slot
    pub route_inside : Route pt k < NumBuckets pt
    unfolding Route LargestLte
    route_inside = slot_inside false (key k) pt w bounded

    -- no pivot up to its route is above the key
    pub route_lower : (i : ℕ) → i ≤ Route pt k → lte (pivot_at pt i) (key k) ≡ true
    unfolding Route LargestLte
    route_lower = slot_lower false (key k) pt w bounded

    -- every pivot after its route is above the key
    pub route_upper : (i : ℕ) → Route pt k < i → i < length pt → lt (key k) (pivot_at pt i) ≡ true
    unfolding Route LargestLte
    route_upper i h l = ap not (slot_upper false (key k) pt w bounded i h l)

    -- the slot's left pivot is not above the key
    pub route_from : lte (pivot_at pt (Route pt k)) (key k) ≡ true
    route_from = route_lower (Route pt k) (le_refl (Route pt k))

    -- the slot's right pivot is above it
    pub route_below : lt (key k) (pivot_at pt (Route pt k + 1)) ≡ true
    route_below = let h = route_inside in route_upper (Route pt k + 1) (omega arith) (omega arith)

    -- a bounded key is in the range of the slot that it is routed to
    pub route_between : InBetween (pivot_at pt (Route pt k)) (pivot_at pt (Route pt k + 1)) k ≡ true
    route_between = rw (route_from, lt_false (key k) (pivot_at pt (Route pt k + 1)) route_below)

  module _ (i : ℕ) (h : i < NumBuckets pt) (f : lte (pivot_at pt i) (key k) ≡ true) (g : lt (key k) (pivot_at pt (i + 1)) ≡ true) where
    above : lte (pivot_at pt (i + 1)) (key k) ≡ false
    above = lt_false (key k) (pivot_at pt (i + 1)) g

    -- a key in a slot is bounded
    pub slot_bounded : BoundedKey pt k ≡ true
    slot_bounded = bounded_within pt k ∙ slot_within false (key k) pt w i h f above

    -- a key in a slot's range has the slot as its route
    pub slot_is_route : i ≡ Route pt k
    unfolding Route LargestLte
    slot_is_route = let e = slot_place false (key k) pt w i h f above in omega arith

  -- no key is in two slots
  pub one_slot : (i j : ℕ) → i < NumBuckets pt → j < NumBuckets pt
      → lte (pivot_at pt i) (key k) ≡ true → lt (key k) (pivot_at pt (i + 1)) ≡ true
      → lte (pivot_at pt j) (key k) ≡ true → lt (key k) (pivot_at pt (j + 1)) ≡ true → i ≡ j
  one_slot i j h l f g f' g' = slot_is_route i h f g ∙ sym (slot_is_route j l f' g')

-- the right cut-off is the route
pub cutoff_right_is_route : (pt : PivotTable) (k : Key) → CutoffForRight pt k ≡ Route pt k
unfolding CutoffForRight
cutoff_right_is_route pt k = refl

-- a key that is not below has a route that is not before
pub route_rises : (pt : PivotTable) (j k : Key) → lte (key j) (key k) ≡ true → Route pt j ≤ Route pt k
unfolding Route LargestLte
route_rises pt j k h =
    let l = place_le (passes false (key j)) (passes false (key k)) pt (λ p. passes_more false (key j) (key k) p h) in
    omega arith

-- ---- CutoffForLeft

module _ (pt : PivotTable) (k : Key) (w : WFPivots pt ≡ true) where
  module _ (v : ValidLeftCutOffKey pt k ≡ true) where
    valid : within true (key k) pt ≡ true
    valid = sym (valid_within pt k) ∙ v

    -- the left cut-off is a slot
    pub cutoff_left_inside : CutoffForLeft pt k < NumBuckets pt
    unfolding CutoffForLeft LargestLt
    cutoff_left_inside = slot_inside true (key k) pt w valid

    -- every pivot up to it is below the key
    pub cutoff_left_lower : (i : ℕ) → i ≤ CutoffForLeft pt k → lt (pivot_at pt i) (key k) ≡ true
    unfolding CutoffForLeft LargestLt
    cutoff_left_lower = slot_lower true (key k) pt w valid

    -- no pivot after it is below the key
    pub cutoff_left_upper : (i : ℕ) → CutoffForLeft pt k < i → i < length pt → lte (key k) (pivot_at pt i) ≡ true
    unfolding CutoffForLeft LargestLt
    cutoff_left_upper i h l = not-false (lte (key k) (pivot_at pt i)) (slot_upper true (key k) pt w valid i h l)

    -- the slot's left pivot is below the key
    pub cutoff_left_below : lt (pivot_at pt (CutoffForLeft pt k)) (key k) ≡ true
    cutoff_left_below = cutoff_left_lower (CutoffForLeft pt k) (le_refl (CutoffForLeft pt k))

    -- the slot's right pivot is not below it
    pub cutoff_left_reaches : lte (key k) (pivot_at pt (CutoffForLeft pt k + 1)) ≡ true
    cutoff_left_reaches = let h = cutoff_left_inside in cutoff_left_upper (CutoffForLeft pt k + 1) (omega arith) (omega arith)

  module _ (i : ℕ) (h : i < NumBuckets pt) (f : lt (pivot_at pt i) (key k) ≡ true) (g : lte (key k) (pivot_at pt (i + 1)) ≡ true) where
    -- a key above a slot's left pivot and not above its right one cuts off on the left
    pub cutoff_left_valid : ValidLeftCutOffKey pt k ≡ true
    cutoff_left_valid = valid_within pt k ∙ slot_within true (key k) pt w i h f (ap not g)

    -- a key above a slot's left pivot and not above its right one has the slot as its left cut-off
    pub cutoff_left_is : i ≡ CutoffForLeft pt k
    unfolding CutoffForLeft LargestLt
    cutoff_left_is = let e = slot_place true (key k) pt w i h f (ap not g) in omega arith

-- ---- GetKey, InitPivotTable, ContainsAllKeys, ContainsRange

-- the key at a place is the pivot there
pub get_key : (pt : PivotTable) (i : ℕ) → is_key (pivot_at pt i) ≡ true → pivot_at pt i ≡ key (GetKey pt i)
unfolding GetKey
get_key pt i h = go (pivot_at pt i) h
  where
    go : (p : Element) → is_key p ≡ true → p ≡ key (key_of p)
    go (key k) e = refl
    go max e = absurd (false≢true e)

-- the key at a place that is not the last lies in the slot on its right
module _ (pt : PivotTable) (i : ℕ) (w : WFPivots pt ≡ true) (h : i < NumBuckets pt) where
  from : lte (pivot_at pt i) (key (GetKey pt i)) ≡ true
  from = rw (← get_key pt i (wf_keys pt w i h)) (lte_refl (pivot_at pt i))

  next : lt (key (GetKey pt i)) (pivot_at pt (i + 1)) ≡ true
  next = rw (← get_key pt i (wf_keys pt w i h)) (sorted_at pt i (i + 1) (wf_sorted pt w) (omega arith) (omega arith))

  -- each pivot but the last is a bounded key
  pub pivot_bounded : BoundedKey pt (GetKey pt i) ≡ true
  pivot_bounded = slot_bounded pt (GetKey pt i) w i h from next

  -- the route of a pivot but the last is the slot on its right
  pub route_of_pivot : Route pt (GetKey pt i) ≡ i
  route_of_pivot = sym (slot_is_route pt (GetKey pt i) w i h from next)

-- the first table is well formed
pub init_wf : WFPivots InitPivotTable ≡ true
unfolding WFPivots InitPivotTable IsStrictlySorted rises_from lte all
init_wf = refl

-- the first table contains all keys
pub init_all : ContainsAllKeys InitPivotTable ≡ true
unfolding ContainsAllKeys WFPivots InitPivotTable IsStrictlySorted rises_from lte lte_key all
init_all = refl

-- a key not below the first pivot and below the last is bounded
bounded_by : (pt : PivotTable) (k : Key) → lte (pivot_at pt 0) (key k) ≡ true → lt (key k) (last_pivot pt) ≡ true → BoundedKey pt k ≡ true
unfolding BoundedKey
bounded_by pt k f g = rw f g

-- a table that contains all keys bounds every key
pub contains_all_bounded : (pt : PivotTable) (k : Key) → ContainsAllKeys pt ≡ true → BoundedKey pt k ≡ true
unfolding ContainsAllKeys lte lte_key
contains_all_bounded pt k h =
    let a = both (WFPivots pt && same (pivot_at pt 0) (key [])) (same (last_pivot pt) max) h in
    let b = both (WFPivots pt) (same (pivot_at pt 0) (key [])) a.0 in
    let first = both (lte (pivot_at pt 0) (key [])) (lte (key []) (pivot_at pt 0)) b.1 in
    let last = both (lte (last_pivot pt) max) (lte max (last_pivot pt)) a.1 in
    bounded_by pt k (lte_trans (pivot_at pt 0) (key []) (key k) first.0 refl)
    (lt_trans_lte (key k) max (last_pivot pt) (max_above k) last.1)

-- a table that contains a range bounds every key of the range
pub contains_range_bounded : (pt : PivotTable) (l r : Element) (k : Key) → ContainsRange pt l r ≡ true
    → lte l (key k) ≡ true → lt (key k) r ≡ true → BoundedKey pt k ≡ true
unfolding ContainsRange
contains_range_bounded pt l r k h f g =
    let a = both (lte (pivot_at pt 0) l) (lte r (last_pivot pt)) h in
    bounded_by pt k (lte_trans (pivot_at pt 0) l (key k) a.0 f) (lt_trans_lte (key k) r (last_pivot pt) g a.1)

-- a table that bounds every key of at most 64 bytes of a range contains the range
module _ (pt : PivotTable) (l : Key) (r : Element) (w : WFPivots pt ≡ true) (s : length l ≤ max_len) (h : lt (key l) r ≡ true)
    (f : (k : Key) → length k ≤ max_len → lte (key l) (key k) ≡ true → lt (key k) r ≡ true → BoundedKey pt k ≡ true) where
  left_bounded : (lte (pivot_at pt 0) (key l) ≡ true) × (lt (key l) (last_pivot pt) ≡ true)
  unfolding BoundedKey
  left_bounded = both (lte (pivot_at pt 0) (key l)) (lt (key l) (last_pivot pt)) (f l s (lte_refl (key l)) h)

  reaches : (u : Element) → last_pivot pt ≡ u → short_element u ≡ true → lte r u ≡ true
  unfolding BoundedKey
  reaches max e b = lte_max r
  reaches (key k) e b = go (lte r (key k)) refl
    where
      go : (t : Bool) → lte r (key k) ≡ t → t ≡ true
      go true c = refl
      go false c =
          let d = f k (leb-true (length k) max_len b) (lt_lte (key l) (key k) (rw e at left_bounded.1)) (false_lt (key k) r c) in
          let a = both (lte (pivot_at pt 0) (key k)) (lt (key k) (last_pivot pt)) d in
          absurd (true≢false (sym (lte_refl (key k)) ∙ lt_false (key k) (key k) (rw e at a.1)))

  pub bounded_contains_range : ContainsRange pt (key l) r ≡ true
  unfolding ContainsRange
  bounded_contains_range =
      let n = wf_count pt w in
      rw left_bounded.0 (reaches (last_pivot pt) refl (wf_short pt w (NumBuckets pt) (omega arith)))
