-- Insertion is refused with 8 where a cut at the key is, unless 12 comes first, and nowhere else.
use Rattle.std.specs.Prelude.{Err}
use mathlib.Core.Path.{◌≡◌, refl, sym, ◌∙◌}
use mathlib.Core.Logic.{◌⊎◌, inl, inr, ⊎_elim}
use mathlib.Core.Bool.{Bool, true, false, ◌&&◌, true≢false}
use mathlib.Core.List.{List, [], ◌++◌}
use mathlib.Core.Option.{none, some}
use Prim.Native.Nat.{ℕ, ◌+◌, ◌*◌}
use native.Mathlib.Omega.{arith}
use lib.ListN.{length}
use Rattle.model.specs.declared.Refusal.{Refusal}
use Rattle.model.specs.declared.Refusal.TheVariants.{TooManyPivots, TooLong}
use Rattle.model.specs.keys.Key.{Key, too_long}
use Rattle.model.specs.keys.Order.{key, lte, lt}
use Rattle.model.specs.records.Record.{record_size, elements, edges}
use Rattle.model.specs.tables.Tables.{PivotTable, EdgeTable, pivot_at, last_pivot, all, short_edge, WFPivots, WFEdges, ContainsRange, BoundedKey, ValidLeftCutOffKey, CutoffForLeft, CutoffForRight, is_pivot}
use Rattle.model.specs.cuts.Sides.{inside}
use Rattle.model.specs.calls.Refusals.{Cause, outcome, first}
use Rattle.model.specs.calls.TableCalls.{pivot_causes, table_causes, edge_slot_causes}
use Rattle.model.specs.calls.CutCalls.{cut_pivots, cut_edges, room_causes, write_causes}
use Rattle.model.specs.calls.InsertionCalls.{inserted_pivots, inserted_edges, new_pivot_causes, too_many_pivots, insert_answer}
use Rattle.model.specs.cuts.TwoOrders.{Dests}
use Rattle.model.specs.cuts.Inserted.{long_insert, long_cut, LongAsCuts}
use Rattle.model.proofs.keys.Key.{both}
use Rattle.model.proofs.keys.Order.{lt_lte}
use Rattle.model.proofs.calls.Refusals.{refused_by, refused_first, refused, after, lacking}
use Rattle.model.proofs.Lists.{all_parts}
use Rattle.model.proofs.tables.NewPivot.{pivot_left, pivot_right}
use Rattle.model.proofs.calls.TableCalls.{table_wf, table_edges, table_edges_short}
use Rattle.model.proofs.cuts.SplitEdges.{split_left_pivot, split_right_pivot}
use Rattle.model.proofs.calls.CutCalls.{cut_table, cut_inside, cut_short}
use Rattle.model.proofs.calls.InsertionCalls.{insert_found, insert_short, insert_half_long}

-- ---- the causes of what is written

module _ (pt : PivotTable) (et : EdgeTable) (dp de : List ℕ) where
  -- 8 says that an edge is long
  says_long : first (write_causes pt et dp de) ≡ some TooLong → all short_edge et ≡ false
  unfolding outcome
  says_long h = go (all short_edge et) refl
    where
      go : (t : Bool) → all short_edge et ≡ t → t ≡ false
      go true e =
          let f = (lacking TooLong (room_causes (length pt * record_size) (length et * record_size) dp de) [] refl (rw e at h)).1 in
          let z : ◌≡◌ {A = ℕ} 0 1 = cc in absurd (omega arith)
      go false e = refl

  -- and a long edge makes it 8
  long_says : all short_edge et ≡ false → first (write_causes pt et dp de) ≡ some TooLong
  unfolding outcome
  long_says h = rw h

-- a key where a cut is accepted is of the range
pub inside_contained : (left : Bool) (pt : PivotTable) (k : Key) → inside left pt k ≡ true → ContainsRange pt (key k) (key k) ≡ true
unfolding ContainsRange BoundedKey ValidLeftCutOffKey
inside_contained true pt k h =
    let i = both (lt (pivot_at pt 0) (key k)) (lte (key k) (last_pivot pt)) h in
    rw (lt_lte (pivot_at pt 0) (key k) i.0) i.1
inside_contained false pt k h =
    let i = both (lte (pivot_at pt 0) (key k)) (lt (key k) (last_pivot pt)) h in
    rw i.0 (lt_lte (key k) (last_pivot pt) i.1)

module _ (p e : List ℕ) (k : Key) where
  -- ---- a cut

  module _ (left : Bool) (d : Dests) where
    -- refused with 8, it had none of the causes 1 to 5
    cut_8 : long_cut left p e k d → (first (edge_slot_causes p e k (inside left (elements p) k)) ≡ none) × (all short_edge (cut_edges left p e k) ≡ false)
    unfolding table_causes pivot_causes
    cut_8 h =
        let cs = edge_slot_causes p e k (inside left (elements p) k) in
        let ws = write_causes (cut_pivots left p k) (cut_edges left p e k) d.for_pivots d.for_edges in
        let l = lacking TooLong cs ws refl (refused (cs ++ ws) (length (cut_pivots left p k)) _ refl TooLong h) in
        (l.0, says_long (cut_pivots left p k) (cut_edges left p e k) d.for_pivots d.for_edges l.1)

    -- and it is refused where it has none of them and a long edge
    cut_long : first (edge_slot_causes p e k (inside left (elements p) k)) ≡ none → all short_edge (cut_edges left p e k) ≡ false → long_cut left p e k d
    cut_long h f =
        let cs = edge_slot_causes p e k (inside left (elements p) k) in
        let w = long_says (cut_pivots left p k) (cut_edges left p e k) d.for_pivots d.for_edges f in
        sym (after Err _ _ cs _ h (refused_by Err _ _ _ TooLong w refl))

    -- at a pivot it has the old edges, and they are short
    pivot_short : first (edge_slot_causes p e k (inside left (elements p) k)) ≡ none → is_pivot (elements p) k ≡ true → all short_edge (cut_edges left p e k) ≡ true
    pivot_short h i = go left (cut_inside left p e k h)
      where
        wf : WFPivots (elements p) ≡ true
        wf = table_wf false (too_long k) p e (cut_table left p e k h)

        fits : WFEdges (edges e) (elements p) ≡ true
        fits = table_edges false (too_long k) p e (cut_table left p e k h)

        short : all short_edge (edges e) ≡ true
        short = table_edges_short false (too_long k) p e (cut_table left p e k h)

        go : (left : Bool) → inside left (elements p) k ≡ true → all short_edge (cut_edges left p e k) ≡ true
        go true v = rw (split_left_pivot (elements p) (edges e) k wf fits v (pivot_left (elements p) k wf i v)) (all_parts short_edge (CutoffForLeft (elements p) k + 1) (edges e) short).0
        go false v = rw (split_right_pivot (elements p) (edges e) k wf fits v (pivot_right (elements p) k wf i v)) (all_parts short_edge (CutoffForRight (elements p) k) (edges e) short).1

  -- ---- an insertion

  module _ (d : Dests) where
    abbrev written : List Cause
    written = write_causes (inserted_pivots p k) (inserted_edges p e k) d.for_pivots d.for_edges

    -- refused with 8, it had none of the causes of the key, and a long edge
    insert_8 : long_insert p e k d → (first (new_pivot_causes p e k) ≡ none) × (all short_edge (inserted_edges p e k) ≡ false)
    unfolding table_causes pivot_causes
    insert_8 h =
        let l = lacking TooLong (new_pivot_causes p e k) written refl (refused (new_pivot_causes p e k ++ written) (length (inserted_pivots p k)) _ refl TooLong h) in
        (l.0, says_long (inserted_pivots p k) (inserted_edges p e k) d.for_pivots d.for_edges l.1)

    -- and it is refused where it has none of them and a long edge
    insert_long : first (new_pivot_causes p e k) ≡ none → all short_edge (inserted_edges p e k) ≡ false → long_insert p e k d
    insert_long h f =
        let w = long_says (inserted_pivots p k) (inserted_edges p e k) d.for_pivots d.for_edges f in
        sym (after Err _ _ (new_pivot_causes p e k) _ h (refused_by Err _ _ _ TooLong w refl))

    -- where a cut is refused with 8 the key has none of its causes but 12
    new_unless : (left : Bool) → first (edge_slot_causes p e k (inside left (elements p) k)) ≡ none → all short_edge (cut_edges left p e k) ≡ false
        → (insert_answer p e k d.for_pivots d.for_edges ≡ Err TooManyPivots → ⊥) → first (new_pivot_causes p e k) ≡ none
    unfolding outcome
    new_unless left h f g = go (is_pivot (elements p) k) (too_many_pivots (inserted_pivots p k)) refl refl
      where
        contained : ContainsRange (elements p) (key k) (key k) ≡ true
        contained = inside_contained left (elements p) k (cut_inside left p e k h)

        table : first (table_causes false (too_long k) p e) ≡ none
        table = cut_table left p e k h

        answered : (r : Refusal) → first (new_pivot_causes p e k) ≡ some r → insert_answer p e k d.for_pivots d.for_edges ≡ Err r
        answered r w = sym (refused_first Err _ _ (new_pivot_causes p e k) written r w refl)

        go : (t u : Bool) → is_pivot (elements p) k ≡ t → too_many_pivots (inserted_pivots p k) ≡ u → first (new_pivot_causes p e k) ≡ none
        go true u i j = absurd (true≢false (sym (pivot_short left d h i) ∙ f))
        go false true i j = absurd (g (answered TooManyPivots (sym (after some none _ (table_causes false (too_long k) p e) _ table (rw (contained, i, j))))))
        go false false i j = sym (after some none _ (table_causes false (too_long k) p e) _ table (rw (contained, i, j)))

  -- of two edges that are not both short one is long
  long_edge : (a b : Bool) → (a && b) ≡ false → (a ≡ false) ⊎ (b ≡ false)
  long_edge true b h = inr h
  long_edge false b h = inl refl

  pub long_as_cuts : (d : Dests) → LongAsCuts p e k d
  long_as_cuts d = record { cut = cut; inserted = inserted }
    where
      cut : (l r : Dests) → long_insert p e k d → long_cut true p e k l ⊎ long_cut false p e k r
      cut l r h =
          let w = insert_8 d h in
          let found = insert_found p e k w.0 in
          ⊎_elim (λ f. inl (cut_long true l (found true) (cut_short true p e k (found true) ∙ f)))
          (λ f. inr (cut_long false r (found false) (cut_short false p e k (found false) ∙ f)))
          (long_edge _ _ (sym (insert_short p e k w.0) ∙ w.1))

      inserted : (left : Bool) (c : Dests) → long_cut left p e k c
          → (insert_answer p e k d.for_pivots d.for_edges ≡ Err TooManyPivots → ⊥) → long_insert p e k d
      inserted left c h g =
          let w = cut_8 left c h in
          let new = new_unless d left w.0 w.1 g in
          insert_long d new (insert_half_long p e k new left (sym (cut_short left p e k w.0) ∙ w.1))
