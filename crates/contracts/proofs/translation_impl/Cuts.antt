-- TranslationImpl, lines 29 to 69: the edges that a cut leaves. The other clauses of both methods are those of ComputeSplitLeft and ComputeSplitRight: proofs/bounded_pivots/Cuts.
use Rattle.std.specs.Prelude.{Ok, Err}
use mathlib.Core.Path.{◌≡◌, refl, ◌∙◌}
use mathlib.Core.Bool.{Bool, true, false}
use mathlib.Core.List.{List}
use Prim.Native.Nat.{ℕ, ◌*◌, ◌≤◌}
use lib.ListN.{length}
use Rattle.model.specs.declared.Refusal.TheVariants.{EmptyPrefix, TooLong}
use Rattle.model.specs.keys.Key.{Key, max_len}
use Rattle.model.specs.records.Record.{record_size, elements, edges, encode_all, encode_edges}
use Rattle.model.specs.tables.Tables.{PivotTable, EdgeTable, max_pivots, all, short_edge, WFPivots, WFEdges, BoundedKey, ValidLeftCutOffKey}
use Rattle.model.specs.cuts.Cuts.{SplitLeft, SplitRight, SplitLeftEdges, SplitRightEdges}
use Rattle.model.specs.cuts.Sides.{inside, Split, SplitEdges}
use Rattle.model.specs.calls.Refusals.{over}
use Rattle.model.specs.calls.TableCalls.{pivot_causes, table_causes}
use Rattle.model.specs.calls.CutCalls.{cut_causes, cut_answer, cut_leaves_edges}
use Rattle.model.proofs.calls.Refusals.{not_fails}
use Rattle.contracts.specs.Refuses.{RefusesAt}
use Rattle.contracts.proofs.Refusing.{refuses_at}
use Rattle.contracts.proofs.Lent.{accepted, pivots_read_lem, edges_read_lem}
use Rattle.contracts.proofs.CutsLent.{cut_lent}

-- lent any bytes
module _ (p e : List ℕ) (k : Key) (dp de : List ℕ) where
  edges_stand_lem : (left : Bool) → WFEdges (edges e) (elements p) ≡ false → RefusesAt Err (cut_causes left p e k dp de) 3 EmptyPrefix (cut_answer left p e k dp de)
  unfolding table_causes pivot_causes
  edges_stand_lem left h = refuses_at _ _ (cut_causes left p e k dp de) 3 _ _ _ refl (not_fails _ h)

  -- requires WFEdges(et, pt)
  pub translation_impl_31 : WFEdges (edges e) (elements p) ≡ false → RefusesAt Err (cut_causes true p e k dp de) 3 EmptyPrefix (cut_answer true p e k dp de)
  translation_impl_31 = edges_stand_lem true

  -- requires WFEdges(et, pt)
  pub translation_impl_52 : WFEdges (edges e) (elements p) ≡ false → RefusesAt Err (cut_causes false p e k dp de) 3 EmptyPrefix (cut_answer false p e k dp de)
  translation_impl_52 = edges_stand_lem false

  long_edge : (left : Bool) → all short_edge (SplitEdges left (edges e) (elements p) k) ≡ false → RefusesAt Err (cut_causes left p e k dp de) 5 TooLong (cut_answer left p e k dp de)
  unfolding table_causes pivot_causes
  long_edge left h = refuses_at _ _ (cut_causes left p e k dp de) 5 _ _ _ refl (not_fails _ h)

  -- ensures et' == SplitLeftEdges(et, pt, pivot)
  -- where one of these edges passes 64 bytes, the cut is refused
  pub translation_impl_36b : all short_edge (SplitLeftEdges (edges e) (elements p) k) ≡ false → RefusesAt Err (cut_causes true p e k dp de) 5 TooLong (cut_answer true p e k dp de)
  translation_impl_36b = long_edge true

  -- ensures et' == SplitRightEdges(et, pt, pivot)
  -- where one of these edges passes 64 bytes, the cut is refused
  pub translation_impl_57b : all short_edge (SplitRightEdges (edges e) (elements p) k) ≡ false → RefusesAt Err (cut_causes false p e k dp de) 5 TooLong (cut_answer false p e k dp de)
  translation_impl_57b = long_edge false

-- lent the records of a table and its edges
module _ (pt : PivotTable) (et : EdgeTable) (w : WFPivots pt ≡ true) (m : length pt ≤ max_pivots) (x : WFEdges et pt ≡ true) (s : all short_edge et ≡ true)
    (k : Key) (l : length k ≤ max_len) (dp de : List ℕ) where
  edges_left : (left : Bool) → inside left pt k ≡ true → all short_edge (SplitEdges left et pt k) ≡ true
      → length (Split left pt k) * record_size ≤ length dp → length (SplitEdges left et pt k) * record_size ≤ length de
      → (cut_answer left (encode_all pt) (encode_edges et) k dp de ≡ Ok (length (Split left pt k)))
      × (cut_leaves_edges left (encode_all pt) (encode_edges et) k dp de ≡ over (encode_edges (SplitEdges left et pt k)) de)
  edges_left left i f rp re =
      let h = cut_lent pt et w m x s left k dp de l i f rp re in
      let c = cut_causes left (encode_all pt) (encode_edges et) k dp de in
      (accepted _ _ c h ∙ rw (pivots_read_lem pt w), accepted _ _ c h ∙ rw (pivots_read_lem pt w, edges_read_lem pt et w m x s))

  -- ensures et' == SplitLeftEdges(et, pt, pivot)
  pub translation_impl_36 : ValidLeftCutOffKey pt k ≡ true → all short_edge (SplitLeftEdges et pt k) ≡ true
      → length (SplitLeft pt k) * record_size ≤ length dp → length (SplitLeftEdges et pt k) * record_size ≤ length de
      → (cut_answer true (encode_all pt) (encode_edges et) k dp de ≡ Ok (length (SplitLeft pt k)))
      × (cut_leaves_edges true (encode_all pt) (encode_edges et) k dp de ≡ over (encode_edges (SplitLeftEdges et pt k)) de)
  translation_impl_36 = edges_left true

  -- ensures et' == SplitRightEdges(et, pt, pivot)
  pub translation_impl_57 : BoundedKey pt k ≡ true → all short_edge (SplitRightEdges et pt k) ≡ true
      → length (SplitRight pt k) * record_size ≤ length dp → length (SplitRightEdges et pt k) * record_size ≤ length de
      → (cut_answer false (encode_all pt) (encode_edges et) k dp de ≡ Ok (length (SplitRight pt k)))
      × (cut_leaves_edges false (encode_all pt) (encode_edges et) k dp de ≡ over (encode_edges (SplitRightEdges et pt k)) de)
  translation_impl_57 = edges_left false
