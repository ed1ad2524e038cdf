-- BoundedPivotsLib: two of the comments that are left of lemmas, at lines 234 and 385.
use mathlib.Core.Path.{◌≡◌, ap, ◌∙◌}
use mathlib.Core.Bool.{true}
use mathlib.Core.List.{◌++◌}
use mathlib.Core.Logic.{⊎_elim}
use Prim.Native.Nat.{ℕ, ◌+◌, ◌-◌, ◌≤◌, ◌<◌}
use native.Mathlib.Omega.{arith}
use lib.ListN.{length, take, drop, length-append, length-drop, get_or-append}
use lib.Seq.{length-take-le, get_or-take, get_or-drop, get_or-append-add}
use Rattle.model.specs.keys.Key.{Key, Bytes}
use Rattle.model.specs.keys.Order.{max, lt, lte, key}
use Rattle.model.specs.records.Record.{edge}
use Rattle.model.specs.tables.Tables.{PivotTable, EdgeTable, pivot_at, edge_at, short_element, WFPivots, BoundedKey, Route, ContainsRange, BytesT}
use Rattle.model.specs.translation.Translation.{TranslateKey}
use Rattle.model.specs.translation.ParentChild.{ParentKeysInChildRange}
use Rattle.model.proofs.Lists.{inside_all, le_or_lt}
use Rattle.model.proofs.keys.Key.{both}
use Rattle.model.proofs.tables.Places.{sorted_at, sorted_of}
use Rattle.model.proofs.tables.Routing.{wf_of, wf_sorted, wf_short, route_between, contains_range_bounded}
use Rattle.model.proofs.translation.ParentChild.{parent_child_bounded}

module _ (pt : PivotTable) (i : ℕ) (h : i < length pt) where
  abbrev without : PivotTable
  without = take i pt ++ drop (i + 1) pt

  length_before : length (take i pt) ≡ i
  length_before = length-take-le i pt (omega arith)

  length_without : length without + 1 ≡ length pt
  length_without = omega (arith, length-append (take i pt) (drop (i + 1) pt), length_before, length-drop (i + 1) pt)

  before : (j : ℕ) → j < i → pivot_at without j ≡ pivot_at pt j
  before j l = get_or-append (take i pt) (drop (i + 1) pt) max j (omega (arith, length_before)) ∙ get_or-take i pt j max l

  after : (j : ℕ) → i ≤ j → pivot_at without j ≡ pivot_at pt (j + 1)
  after j l =
      let e : j ≡ length (take i pt) + (j - i) = omega (arith, length_before) in
      let f : i + 1 + (j - i) ≡ j + 1 = omega arith in
      ap (pivot_at without) e ∙ get_or-append-add (take i pt) (drop (i + 1) pt) (j - i) max ∙ get_or-drop (i + 1) pt (j - i) max ∙ ap (pivot_at pt) f

-- removing a pivot from WFPivot is still WFPivot
-- "only when there are more" than two
pub bounded_pivots_234 : (pt : PivotTable) (i : ℕ) → WFPivots pt ≡ true → 2 < length pt → i < length pt → WFPivots (take i pt ++ drop (i + 1) pt) ≡ true
bounded_pivots_234 pt i w m h =
    let n = length_without pt i h in
    wf_of (without pt i h) (sorted_of (without pt i h) rises) (inside_all short_element (without pt i h) max short) (omega arith)
  where
    short : (j : ℕ) → j < length (take i pt ++ drop (i + 1) pt) → short_element (pivot_at (take i pt ++ drop (i + 1) pt) j) ≡ true
    short j l =
        ⊎_elim (λ (a : i ≤ j). rw (after pt i h j a) (wf_short pt w (j + 1) (omega (arith, length_without pt i h))))
        (λ (a : j < i). rw (before pt i h j a) (wf_short pt w j (omega arith))) (le_or_lt i j)

    rises : (j : ℕ) → j + 1 < length (take i pt ++ drop (i + 1) pt)
        → lt (pivot_at (take i pt ++ drop (i + 1) pt) j) (pivot_at (take i pt ++ drop (i + 1) pt) (j + 1)) ≡ true
    rises j l =
        let n = length_without pt i h in
        ⊎_elim (λ (a : i ≤ j). rw (after pt i h j a, after pt i h (j + 1) (omega arith)) (sorted_at pt (j + 1) (j + 1 + 1) (wf_sorted pt w) (omega arith) (omega arith)))
        (λ (a : j < i).
        ⊎_elim (λ (b : i ≤ j + 1). rw (before pt i h j a, after pt i h (j + 1) b) (sorted_at pt j (j + 1 + 1) (wf_sorted pt w) (omega arith) (omega arith)))
        (λ (b : j + 1 < i). rw (before pt i h j a, before pt i h (j + 1) b) (sorted_at pt j (j + 1) (wf_sorted pt w) (omega arith) (omega arith))) (le_or_lt i (j + 1)))
        (le_or_lt i j)

-- given a key that maps in the parents pivot table (by parentIdx), shows that the key maps in the child as well
-- where the child contains the slot's range
pub bounded_pivots_385 : (parent child : PivotTable) (parentIdx : ℕ) (k : Key) → WFPivots parent ≡ true → BoundedKey parent k ≡ true → Route parent k ≡ parentIdx
    → ContainsRange child (pivot_at parent parentIdx) (pivot_at parent (parentIdx + 1)) ≡ true → BoundedKey child k ≡ true
bounded_pivots_385 parent child parentIdx k w h r c =
    let left = pivot_at parent parentIdx in
    let right = pivot_at parent (parentIdx + 1) in
    let b = both (lte left (key k)) (lt (key k) right) (rw r at (route_between parent k w h)) in
    contains_range_bounded child left right k c b.0 b.1

-- given a key that maps in the parents pivot table (by parentIdx), shows that the key maps in the child as well
-- where the child contains the slot's range, translated by its edge: the key then, translated
pub bounded_pivots_385b : (parent : PivotTable) (et : EdgeTable) (child : PivotTable) (slot : ℕ) (k : Key) → WFPivots parent ≡ true → BytesT parent
    → ((q : Key) → edge_at et slot ≡ edge q → Bytes q) → ParentKeysInChildRange parent et child slot ≡ true → Bytes k → BoundedKey parent k ≡ true → Route parent k ≡ slot
    → BoundedKey child (TranslateKey parent et k) ≡ true
bounded_pivots_385b parent et child slot k w t b y c h r = parent_child_bounded parent et child slot w t b y k c h r
