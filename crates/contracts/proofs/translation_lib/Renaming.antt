-- TranslationLib, lines 297 to 326: pivots and edges under another prefix, from every place idx on.
use Rattle.std.specs.Prelude.{Ok, Err}
use mathlib.Core.Path.{◌≡◌, refl, sym, ap, ◌∙◌}
use mathlib.Core.Bool.{true, false}
use mathlib.Core.List.{List, [], ◌∷◌}
use Prim.Native.Nat.{ℕ, suc, ◌+◌, ◌*◌, ◌-◌, ◌≤◌, ◌<◌}
use native.Mathlib.Numerals.{add-one}
use native.Mathlib.Nat.{add-zero, add_comm}
use native.Mathlib.Omega.{arith}
use lib.ListN.{length, take, drop, length-drop, drop_of_length-le}
use lib.Seq.{drop-cons, get_or-drop}
use Rattle.model.specs.declared.Refusal.TheVariants.{TooLong}
use Rattle.model.specs.keys.Key.{Key, IsPrefix}
use Rattle.model.specs.keys.Order.{Element, max, is_key, lt}
use Rattle.model.specs.records.Record.{Edge, edge, no_edge, record_size, elements}
use Rattle.model.specs.ranges.RangePrefix.{PivotLcp}
use Rattle.model.specs.tables.Tables.{PivotTable, EdgeTable, NumBuckets, pivot_at, edge_at, last_pivot, key_of, ElementsAreKeys, IsStrictlySorted, WFPivots, WFEdges, slot_prefix}
use Rattle.model.specs.translation.Renaming.{TranslateElement, TranslatePivots, filled, edges_from, TranslateEdges}
use Rattle.model.specs.calls.TableCalls.{wf_pivots_answer}
use Rattle.model.specs.calls.RenamingCalls.{new_pivots, pivots_answer, pivots_leaves, pivots_causes}
use Rattle.model.proofs.tables.Places.{sorted_tail}
use Rattle.model.proofs.tables.Routing.{wf_of}
use Rattle.model.proofs.cuts.CutEdges.{edges_say}
use Rattle.model.proofs.translation.Renaming.{pivots_count, pivots_last, pivots_keys, pivots_begin, pivots_back, pivots_rise, pivots_from, edges_count, edges_kept, edges_filled, edges_from_lem}
use Rattle.model.proofs.calls.TableCalls.{causes_wf}
use Rattle.model.proofs.calls.RenamingCalls.{pivots_read_lem, pivots_pass}
use Rattle.contracts.specs.Refuses.{RefusesAt}
use Rattle.contracts.specs.Translation.{TranslatePivotsFrom, TranslateEdgesFrom}
use Rattle.contracts.proofs.LongRefused.{new_pivots_refused}
use Rattle.contracts.proofs.Lent.{accepted}
use Rattle.contracts.proofs.translation_lib.Shared.{from_place}

-- ---- TranslatePivots

-- the end alone is left of one pivot
pivots_one : (p q : Key) (end : Element) (pt : PivotTable) → length pt ≡ 1 → TranslatePivots pt p q end ≡ end ∷ []
unfolding TranslatePivots
pivots_one p q end pt h = let z : NumBuckets pt ≡ 0 = omega arith in rw z

-- the first of several is translated, and then the others
pivots_first : (p q : Key) (end x : Element) (pt : PivotTable) → 0 < length pt → TranslatePivots (x ∷ pt) p q end ≡ TranslateElement p q x ∷ TranslatePivots pt p q end
unfolding TranslatePivots
pivots_first p q end x pt h = let z : suc (length pt) - 1 ≡ suc (length pt - 1) = omega arith in rw z

module _ (pt : PivotTable) (p q : Key) (end : Element) (idx : ℕ) (h : idx < NumBuckets pt) where
  -- the pivots from idx on
  abbrev from : PivotTable
  from = TranslatePivotsFrom pt p q end idx

  step : from ≡ TranslateElement p q (pivot_at pt idx) ∷ TranslatePivotsFrom pt p q end (idx + 1)
  step = rw (drop-cons pt idx max (omega arith), add-one idx) (pivots_first p q end (pivot_at pt idx) (drop (suc idx) pt) (omega (arith, length-drop (suc idx) pt)))

  -- function TranslatePivots(pt: PivotTable, prefix: Key, newPrefix: Key, end: Element, idx: int): (pt' : PivotTable)
  -- the source's recursion
  pub translation_lib_297 : (idx + 1 ≡ NumBuckets pt → TranslatePivotsFrom pt p q end idx ≡ TranslateElement p q (pivot_at pt idx) ∷ end ∷ [])
      × (idx + 1 < NumBuckets pt → TranslatePivotsFrom pt p q end idx ≡ TranslateElement p q (pivot_at pt idx) ∷ TranslatePivotsFrom pt p q end (idx + 1))
  translation_lib_297 = (
    λ e. step ∙ ap (◌∷◌ (TranslateElement p q (pivot_at pt idx))) (pivots_one p q end (drop (idx + 1) pt) (omega (arith, length-drop (idx + 1) pt))),
    λ _. step,
  )

  -- ensures |pt'| == |pt[idx..]|
  pub translation_lib_304 : length (TranslatePivotsFrom pt p q end idx) ≡ length (drop idx pt)
  translation_lib_304 = pivots_count (drop idx pt) p q end (omega (arith, length-drop idx pt))

  -- ensures Last(pt') == end
  pub translation_lib_308 : last_pivot (TranslatePivotsFrom pt p q end idx) ≡ end
  translation_lib_308 = pivots_last (drop idx pt) p q end (omega (arith, length-drop idx pt))

  -- a place of them, in the whole table
  place : (i : ℕ) → pivot_at from i ≡ pivot_at (TranslatePivots pt p q end) (idx + i)
  place i = rw (pivots_from pt p q end idx h) (get_or-drop idx (TranslatePivots pt p q end) i max)

  inside : (i : ℕ) → i < NumBuckets from → idx + i < NumBuckets pt
  inside i l = omega (arith, translation_lib_304, length-drop idx pt)

  module _ (w : WFPivots pt ≡ true) (f : (i : ℕ) → i < NumBuckets pt → IsPrefix p (key_of (pivot_at pt i)) ≡ true) where
    -- ensures WFPivots(pt')
    -- they rise, all but the end are keys, and they are well formed where none passes 64 bytes
    pub translation_lib_303 : lt (TranslateElement p q (pivot_at pt (length pt - 2))) end ≡ true
        → (IsStrictlySorted (TranslatePivotsFrom pt p q end idx) ≡ true)
        × ((i : ℕ) → i < NumBuckets (TranslatePivotsFrom pt p q end idx) → is_key (pivot_at (TranslatePivotsFrom pt p q end idx) i) ≡ true)
        × (ElementsAreKeys (TranslatePivotsFrom pt p q end idx) ≡ true → WFPivots (TranslatePivotsFrom pt p q end idx) ≡ true)
    translation_lib_303 e =
        let z : length pt - 2 ≡ NumBuckets pt - 1 = omega arith in
        let s : IsStrictlySorted from ≡ true = rw (pivots_from pt p q end idx h) (from_place IsStrictlySorted sorted_tail idx (TranslatePivots pt p q end) (pivots_rise pt p q end w f (rw z at e))) in
        (s, λ i l. rw (place i) (pivots_keys pt p q end w f (idx + i) (inside i l)), λ k. wf_of from s k (omega (arith, translation_lib_304, length-drop idx pt)))

    -- && IsPrefix(newPrefix, pt'[i].e)
    pub translation_lib_306 : (i : ℕ) → i < NumBuckets (TranslatePivotsFrom pt p q end idx) → IsPrefix q (key_of (pivot_at (TranslatePivotsFrom pt p q end idx) i)) ≡ true
    translation_lib_306 i l = rw (place i) (pivots_begin pt p q end w f (idx + i) (inside i l))

    -- && pt[idx+i] == TranslateElement(pt'[i], newPrefix, prefix)
    pub translation_lib_307 : (i : ℕ) → i < NumBuckets (TranslatePivotsFrom pt p q end idx)
        → pivot_at pt (idx + i) ≡ TranslateElement q p (pivot_at (TranslatePivotsFrom pt p q end idx) i)
    translation_lib_307 i l = rw (place i) (sym (pivots_back pt p q end w f (idx + i) (inside i l)))

-- ensures WFPivots(pt')
-- of the call: what it leaves where it is accepted are those pivots, well formed, and they pass the check; past 64 bytes it answers 8, unless a cause before it applies
pub translation_lib_303b : (v : List ℕ) (p q : Key) (n d : List ℕ)
    → ((m : ℕ) → pivots_answer v p q n d ≡ Ok m
    → (elements (take (m * record_size) (pivots_leaves v p q n d)) ≡ new_pivots v p q n) × (WFPivots (new_pivots v p q n) ≡ true)
    × (wf_pivots_answer (take (m * record_size) (pivots_leaves v p q n d)) ≡ Ok true))
    × (ElementsAreKeys (new_pivots v p q n) ≡ false → RefusesAt Err (pivots_causes v p q n d) 4 TooLong (pivots_answer v p q n d))
translation_lib_303b v p q n d = (
  λ m h.
      let c = pivots_pass v p q n d m h in
      let r = pivots_read_lem v p q n d m h in
      (r, rw r at (causes_wf false false _ c), accepted Err (Ok true) _ c),
  new_pivots_refused v p q n d,
)

-- ---- TranslateEdges

-- without edges none is filled
edges_none : (pt : PivotTable) → TranslateEdges [] pt ≡ []
unfolding TranslateEdges edges_from
edges_none [] = refl
edges_none (x ∷ []) = refl
edges_none (x ∷ y ∷ pt) = refl

-- the first edge, and then the others
edges_first : (x : Element) (pt : PivotTable) (e : Edge) (et : EdgeTable) → 0 < length pt
    → TranslateEdges (e ∷ et) (x ∷ pt) ≡ filled (PivotLcp x (pivot_at pt 0)) e ∷ TranslateEdges et pt
unfolding TranslateEdges edges_from
edges_first x [] e et h = absurd (omega arith)
edges_first x (y ∷ pt) e et h = refl

module _ (et : EdgeTable) (pt : PivotTable) (x : WFEdges et pt ≡ true) (idx : ℕ) (h : idx < length et) where
  count : length et + 1 ≡ length pt
  count = (edges_say et pt x).count

  edges_step : TranslateEdgesFrom et pt idx ≡ filled (slot_prefix pt idx) (edge_at et idx) ∷ TranslateEdgesFrom et pt (idx + 1)
  edges_step =
      rw (drop-cons et idx no_edge h, drop-cons pt idx max (omega (arith, count)), add-one idx)
      (edges_first (pivot_at pt idx) (drop (suc idx) pt) (edge_at et idx) (drop (suc idx) et) (omega (arith, count, length-drop (suc idx) pt))
      ∙ rw (get_or-drop (suc idx) pt 0 max, add-zero))

  -- function TranslateEdges(et: EdgeTable, pt: PivotTable, idx: int) : (et': EdgeTable)
  -- the source's recursion
  pub translation_lib_321 : (idx + 1 ≡ length et → TranslateEdgesFrom et pt idx ≡ filled (slot_prefix pt idx) (edge_at et idx) ∷ [])
      × (idx + 1 < length et → TranslateEdgesFrom et pt idx ≡ filled (slot_prefix pt idx) (edge_at et idx) ∷ TranslateEdgesFrom et pt (idx + 1))
  translation_lib_321 = (
    λ e. let l : length et ≤ idx + 1 = omega arith in edges_step ∙ rw (drop_of_length-le et l, edges_none (drop (idx + 1) pt)),
    λ _. edges_step,
  )

  -- ensures |et'| == |et[idx..]|
  pub translation_lib_325 : length (TranslateEdgesFrom et pt idx) ≡ length (drop idx et)
  translation_lib_325 = edges_count (drop idx et) (drop idx pt) (omega (arith, count, length-drop idx et, length-drop idx pt))

  -- ensures forall i | 0 <= i < |et'| :: et'[i] == (if et[i+idx].Some? then et[i+idx] else Some(PivotLcp(pt[i+idx], pt[i+idx+1])))
  pub translation_lib_326 : (i : ℕ) → i < length (TranslateEdgesFrom et pt idx)
      → edge_at (TranslateEdgesFrom et pt idx) i ≡ filled (slot_prefix pt (i + idx)) (edge_at et (i + idx))
  translation_lib_326 i l =
      let m : i + idx < length et = omega (arith, translation_lib_325, length-drop idx et) in
      rw (edges_from_lem et pt idx count (omega arith), get_or-drop idx (TranslateEdges et pt) i no_edge, add_comm idx i) (go (edge_at et (i + idx)) refl m)
    where
      go : (e : Edge) → edge_at et (i + idx) ≡ e → i + idx < length et → edge_at (TranslateEdges et pt) (i + idx) ≡ filled (slot_prefix pt (i + idx)) e
      go (edge q) f m = unfold filled in edges_kept et pt count (i + idx) m q f
      go no_edge f m = unfold filled in edges_filled et pt count (i + idx) m f
