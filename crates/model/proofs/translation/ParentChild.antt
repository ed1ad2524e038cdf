-- Parent and child: the source's two cases, and what a yes is for.
use mathlib.Core.Path.{◌≡◌, refl, sym, ◌∙◌}
use mathlib.Core.Bool.{true}
use Prim.Native.Nat.{ℕ, ◌+◌, ◌<◌}
use native.Mathlib.Omega.{arith}
use Rattle.model.specs.keys.Key.{Key, Bytes, change_prefix}
use Rattle.model.specs.keys.Order.{key, lte, lt}
use Rattle.model.specs.records.Record.{Edge, edge, no_edge}
use Rattle.model.specs.ranges.RangePrefix.{PivotLcp, InBetween}
use Rattle.model.specs.tables.Tables.{PivotTable, EdgeTable, NumBuckets, pivot_at, edge_at, WFPivots, BoundedKey, Route, ContainsRange, GetKey, BytesT}
use Rattle.model.specs.translation.PrefixSet.{ApplyPrefixSet}
use Rattle.model.specs.translation.Translation.{edge_pair, Translate, TranslateKey}
use Rattle.model.specs.translation.Renaming.{TranslatePivotPairInternal}
use Rattle.model.specs.translation.ParentChild.{bounds_under, slot_bounds, ParentKeysInChildRange}
use Rattle.model.proofs.keys.Key.{both}
use Rattle.model.proofs.tables.Places.{sorted_at}
use Rattle.model.proofs.tables.Routing.{wf_sorted, wf_keys, get_key, route_inside, route_between, contains_range_bounded}
use Rattle.model.proofs.cuts.Between.{bytes_at}
use Rattle.model.proofs.translation.PivotPair.{pair_fills}

module _ (parent : PivotTable) (et : EdgeTable) (child : PivotTable) (slot : ℕ) where
  -- without an edge the child must contain the slot's own range
  pub parent_child_none : edge_at et slot ≡ no_edge
      → ParentKeysInChildRange parent et child slot ≡ ContainsRange child (pivot_at parent slot) (pivot_at parent (slot + 1))
  unfolding ParentKeysInChildRange slot_bounds bounds_under
  parent_child_none e = rw e

  -- with one, that range with its prefix changed to the edge
  pub parent_child_edge : (q : Key) → edge_at et slot ≡ edge q
      → ParentKeysInChildRange parent et child slot
      ≡ ContainsRange child
      (TranslatePivotPairInternal (pivot_at parent slot) (pivot_at parent (slot + 1)) (PivotLcp (pivot_at parent slot) (pivot_at parent (slot + 1))) q).left
      (TranslatePivotPairInternal (pivot_at parent slot) (pivot_at parent (slot + 1)) (PivotLcp (pivot_at parent slot) (pivot_at parent (slot + 1))) q).right
  unfolding ParentKeysInChildRange slot_bounds bounds_under
  parent_child_edge q e = rw e

  -- where it says yes, each key of the slot, translated, is bounded by the child
  module _ (w : WFPivots parent ≡ true) (t : BytesT parent) (b : (q : Key) → edge_at et slot ≡ edge q → Bytes q)
      (y : ParentKeysInChildRange parent et child slot ≡ true) (k : Key) (c : Bytes k) (h : BoundedKey parent k ≡ true) (r : Route parent k ≡ slot) where
    between : InBetween (pivot_at parent slot) (pivot_at parent (slot + 1)) k ≡ true
    between = rw r at (route_between parent k w h)

    translated : TranslateKey parent et k ≡ ApplyPrefixSet (edge_pair (PivotLcp (pivot_at parent slot) (pivot_at parent (slot + 1))) (edge_at et slot)) k
    unfolding TranslateKey Translate
    translated = rw r

    inside : slot < NumBuckets parent
    inside = rw r at (route_inside parent k w h)

    by_edge : (e : Edge) → edge_at et slot ≡ e → BoundedKey child (ApplyPrefixSet (edge_pair (PivotLcp (pivot_at parent slot) (pivot_at parent (slot + 1))) e) k) ≡ true
    unfolding edge_pair ApplyPrefixSet
    by_edge no_edge e =
        let v = both (lte (pivot_at parent slot) (key k)) (lt (key k) (pivot_at parent (slot + 1))) between in
        contains_range_bounded child (pivot_at parent slot) (pivot_at parent (slot + 1)) k (sym (parent_child_none e) ∙ y) v.0 v.1
    by_edge (edge q) e =
        let l = GetKey parent slot in
        let is : pivot_at parent slot ≡ key l = get_key parent slot (wf_keys parent w slot inside) in
        let up = pivot_at parent (slot + 1) in
        let s = sorted_at parent slot (slot + 1) (wf_sorted parent w) (omega arith) (omega (arith, inside)) in
        let f = pair_fills q l up (b q e) (rw is at (bytes_at parent slot t)) (rw is at s) k c (rw is at between) in
        let z = sym (parent_child_edge q e) ∙ y in
        let v = both (lte (TranslatePivotPairInternal (key l) up (PivotLcp (key l) up) q).left (key (change_prefix (PivotLcp (key l) up) q k))) _ f in
        rw is (contains_range_bounded child _ _ (change_prefix (PivotLcp (key l) up) q k) (rw is at z) v.0 v.1)

    pub parent_child_bounded : BoundedKey child (TranslateKey parent et k) ≡ true
    parent_child_bounded = rw translated (by_edge (edge_at et slot) refl)
