-- TranslationLib, lines 36 to 82: edges that fit, and the edges of the two cuts.
use mathlib.Core.Path.{◌≡◌, refl, sym}
use mathlib.Core.Bool.{Bool, true, false}
use mathlib.Core.List.{List, [], ◌∷◌, ◌++◌}
use Prim.Native.Nat.{ℕ, ◌+◌, ◌≤◌}
use native.Mathlib.Nat.{add-zero}
use native.Mathlib.Omega.{arith}
use lib.ListN.{length, take, drop}
use Rattle.model.specs.keys.Key.{Key, Bytes, max_len, change_prefix}
use Rattle.model.specs.keys.Order.{key}
use Rattle.model.specs.records.Record.{Edge, edge, no_edge}
use Rattle.model.specs.ranges.RangePrefix.{PivotLcp}
use Rattle.model.specs.tables.Tables.{PivotTable, EdgeTable, pivot_at, edge_at, edge_fits, WFPivots, WFEdges, BoundedKey, ValidLeftCutOffKey, CutoffForLeft, CutoffForRight, BytesT, slot_prefix}
use Rattle.model.specs.cuts.Cuts.{SplitLeft, SplitRight, cut_edge, edge_within, SplitLeftEdges, SplitRightEdges}
use Rattle.model.specs.cuts.Sides.{inside, Split, SplitEdges}
use Rattle.model.specs.cuts.TwoOrders.{Dests, wrote, cut}
use Rattle.model.proofs.tables.Routing.{wf_count}
use Rattle.model.proofs.tables.Slots.{wf_says}
use Rattle.model.proofs.cuts.Cuts.{left_at, left_end, right_at, split_right_first}
use Rattle.model.proofs.cuts.CutEdges.{edges_say, say_edges}
use Rattle.model.proofs.cuts.SplitEdges.{split_left_pivot, split_left_none, split_right_pivot, split_right_none}
use Rattle.model.proofs.cuts.Sides.{split_wf, split_bounded, split_edges_wf, split_preserved}
use Rattle.model.proofs.cuts.AcceptedCuts.{cut_bounded_bytes, cut_preserved_bytes}
use Rattle.contracts.specs.Translation.{EdgeLines, PreservedByCalls, NonEmptyLcp, TranslationPreserved}

-- predicate WFEdges(et: EdgeTable, pt: PivotTable)
pub translation_lib_36 : (et : EdgeTable) (pt : PivotTable) → WFPivots pt ≡ true
    → (WFEdges et pt ≡ true → EdgeLines et pt) × (EdgeLines et pt → WFEdges et pt ≡ true)
translation_lib_36 et pt w = (to, from)
  where
    to : WFEdges et pt ≡ true → EdgeLines et pt
    to x =
        let f = edges_say et pt x in
        record { count = omega (arith, f.count); non_empty = λ i q l e. rw e at (f.fits i (omega (arith, f.count))) }

    fits : (i : ℕ) (e : Edge) → ((q : Key) → e ≡ edge q → NonEmptyLcp pt i ≡ true) → edge_fits (PivotLcp (pivot_at pt i) (pivot_at pt (i + 1))) e ≡ true
    fits i (edge q) f = f q refl
    fits i no_edge f = refl

    from : EdgeLines et pt → WFEdges et pt ≡ true
    from x =
        let n : length et + 1 ≡ length pt = omega (arith, x.count, wf_count pt w) in
        say_edges et pt (record { count = n; fits = λ i l. fits i (edge_at et i) (λ q e. x.non_empty i q (omega arith) e) })

-- ---- what a cut leaves, on each side

module _ (left : Bool) (pt : PivotTable) (k : Key) (w : WFPivots pt ≡ true) (v : inside left pt k ≡ true) where
  -- requires WFPivots(pt')
  -- at both uses, pt' being the left or the right cut
  pub translation_lib_45 : length k ≤ max_len → WFPivots (Split left pt k) ≡ true
  translation_lib_45 s = split_wf pt k w left v s

  module _ (b : BytesT pt) (c : Bytes k) (et : EdgeTable) (x : WFEdges et pt ≡ true) where
    -- requires WFEdges(et', pt')
    -- at both uses, et' being the edges of that cut
    pub translation_lib_47 : WFEdges (SplitEdges left et pt k) (Split left pt k) ≡ true
    translation_lib_47 = split_edges_wf pt k w b c et x left v

    preserved : TranslationPreserved pt et (Split left pt k) (SplitEdges left et pt k)
    preserved j d h = (split_bounded pt k w left v j h, split_preserved pt k w b c et x left v j d h)

preserved_by_calls : (left : Bool) (k : Key) (d : Dests) (p e : List ℕ) (n : ℕ) (p' e' : List ℕ) → cut left k d p e ≡ wrote n p' e' → Bytes p → Bytes k
    → PreservedByCalls p e p' e'
preserved_by_calls left k d p e n p' e' a b c j g h = (cut_bounded_bytes left k d p e n p' e' a b c j h, cut_preserved_bytes left k d p e n p' e' a b c j g h)

-- ---- the left cut

module _ (et : EdgeTable) (pt : PivotTable) (k : Key) (w : WFPivots pt ≡ true) (x : WFEdges et pt ≡ true) (v : ValidLeftCutOffKey pt k ≡ true) where
  -- function {:timeLimitMultiplier 4} SplitLeftEdges(et: EdgeTable, pt: PivotTable, pivot: Key) : (et': EdgeTable)
  -- its branches: the key is the pivot after the cut slot; the slot has no edge; it has one, which is changed, whether or not the key is that pivot
  pub translation_lib_54 : (pivot_at pt (CutoffForLeft pt k + 1) ≡ key k → SplitLeftEdges et pt k ≡ take (CutoffForLeft pt k + 1) et)
      × (edge_at et (CutoffForLeft pt k) ≡ no_edge → SplitLeftEdges et pt k ≡ take (CutoffForLeft pt k + 1) et)
      × ((q : Key) → edge_at et (CutoffForLeft pt k) ≡ edge q
      → SplitLeftEdges et pt k
      ≡ take (CutoffForLeft pt k) et
      ++ (edge (change_prefix (slot_prefix pt (CutoffForLeft pt k)) q (slot_prefix (SplitLeft pt k) (CutoffForLeft pt k))) ∷ []))
  unfolding SplitLeftEdges edge_within cut_edge
  translation_lib_54 =
      let t = (wf_says pt w).table in (
        λ e. split_left_pivot pt et k w x v (sym e),
        split_left_none pt et k w x v,
        λ q e. rw (e, left_at t k v (CutoffForLeft pt k) (omega arith), left_end t k v),
      )

  module _ (b : BytesT pt) (c : Bytes k) where
    -- ensures WFEdges(et', SplitLeft(pt, pivot))
    pub translation_lib_58 : WFEdges (SplitLeftEdges et pt k) (SplitLeft pt k) ≡ true
    translation_lib_58 = translation_lib_47 true pt k w v b c et x

    -- ensures TranslationPreserved(pt, et, SplitLeft(pt, pivot), et')
    -- of keys of any length
    pub translation_lib_59 : TranslationPreserved pt et (SplitLeft pt k) (SplitLeftEdges et pt k)
    translation_lib_59 = preserved true pt k w v b c et x

-- ensures TranslationPreserved(pt, et, SplitLeft(pt, pivot), et')
-- of the calls: by what an accepted cut of lent bytes leaves, each key that it bounds gets the answer and the bytes that the uncut table gives, refusal 8 included
pub translation_lib_59b : (k : Key) (d : Dests) (p e : List ℕ) (n : ℕ) (p' e' : List ℕ) → Bytes p → Bytes k → cut true k d p e ≡ wrote n p' e'
    → PreservedByCalls p e p' e'
translation_lib_59b k d p e n p' e' b c a = preserved_by_calls true k d p e n p' e' a b c

-- ---- the right cut

module _ (et : EdgeTable) (pt : PivotTable) (k : Key) (w : WFPivots pt ≡ true) (x : WFEdges et pt ≡ true) (v : BoundedKey pt k ≡ true) where
  -- function {:timeLimitMultiplier 4} SplitRightEdges(et: EdgeTable, pt: PivotTable, pivot: Key) : (et': EdgeTable)
  -- its branches: the key is the cut slot's left pivot; the slot has no edge; it has one, which is changed, whether or not the key is that pivot
  pub translation_lib_77 : (pivot_at pt (CutoffForRight pt k) ≡ key k → SplitRightEdges et pt k ≡ drop (CutoffForRight pt k) et)
      × (edge_at et (CutoffForRight pt k) ≡ no_edge → SplitRightEdges et pt k ≡ drop (CutoffForRight pt k) et)
      × ((q : Key) → edge_at et (CutoffForRight pt k) ≡ edge q
      → SplitRightEdges et pt k
      ≡ edge (change_prefix (slot_prefix pt (CutoffForRight pt k)) q (slot_prefix (SplitRight pt k) 0)) ∷ drop (CutoffForRight pt k + 1) et)
  unfolding SplitRightEdges edge_within cut_edge
  translation_lib_77 =
      let t = (wf_says pt w).table in (
        λ e. split_right_pivot pt et k w x v (sym e),
        split_right_none pt et k w x v,
        λ q e. rw (e, split_right_first pt k w v, right_at t k v 0, add-zero (CutoffForRight pt k + 1)),
      )

  module _ (b : BytesT pt) (c : Bytes k) where
    -- ensures WFEdges(et', SplitRight(pt, pivot))
    pub translation_lib_81 : WFEdges (SplitRightEdges et pt k) (SplitRight pt k) ≡ true
    translation_lib_81 = translation_lib_47 false pt k w v b c et x

    -- ensures TranslationPreserved(pt, et, SplitRight(pt, pivot), et')
    -- of keys of any length
    pub translation_lib_82 : TranslationPreserved pt et (SplitRight pt k) (SplitRightEdges et pt k)
    translation_lib_82 = preserved false pt k w v b c et x

-- ensures TranslationPreserved(pt, et, SplitRight(pt, pivot), et')
-- of the calls, as 59b
pub translation_lib_82b : (k : Key) (d : Dests) (p e : List ℕ) (n : ℕ) (p' e' : List ℕ) → Bytes p → Bytes k → cut false k d p e ≡ wrote n p' e'
    → PreservedByCalls p e p' e'
translation_lib_82b k d p e n p' e' b c a = preserved_by_calls false k d p e n p' e' a b c
