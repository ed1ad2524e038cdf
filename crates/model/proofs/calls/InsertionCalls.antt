-- An insertion by its bytes: the slot of a key that has none of the causes 1 to 5, 11 and 12, and which records are written.
use mathlib.Core.Path.{◌≡◌, sym, ◌∙◌}
use mathlib.Core.Bool.{Bool, true, false, not, ◌&&◌, and-true, and-false}
use mathlib.Core.List.{List, [], ◌∷◌, ◌++◌, append-nil}
use mathlib.Core.Option.{none, some}
use Prim.Native.Nat.{ℕ, ◌+◌, ◌*◌, ◌/◌, ◌≤◌}
use native.Mathlib.Omega.{arith}
use borrow.Author.Tests.{not-false, ltb-false, le-leb}
use lib.ListN.{length, take, drop}
use Rattle.model.specs.declared.Refusal.TheVariants.{OutOfRange, AlreadyPivot, TooManyPivots}
use Rattle.model.specs.keys.Key.{Key, Bytes, max_len, too_long}
use Rattle.model.specs.keys.Order.{key}
use Rattle.model.specs.records.Record.{Edge, record_size, elements, edges, record_of, encode, encode_edge, joined, encode_all, encode_edges}
use Rattle.model.specs.tables.Tables.{max_pivots, all, short_element, short_edge, WFPivots, ContainsRange, Route, is_pivot}
use Rattle.model.specs.cuts.Insertion.{InsertPivot, InsertPivotEdges}
use Rattle.model.specs.cuts.Sides.{inside, cutoff}
use Rattle.model.specs.inner.CutSlot.{cut_slot_edge}
use Rattle.model.specs.calls.Refusals.{◌⇒◌, outcome, first}
use Rattle.model.specs.calls.TableCalls.{table_causes, edge_slot_causes}
use Rattle.model.specs.calls.InsertionCalls.{inserted_pivots, inserted_edges, too_many_pivots, new_pivot_causes}
use Rattle.model.proofs.Lists.{all_append, all_parts}
use Rattle.model.proofs.calls.Refusals.{none_here, none_later, none_before, none_after, after}
use Rattle.model.proofs.records.Record.{length_encode, length-encode_edge}
use Rattle.model.proofs.records.Records.{joined_parts}
use Rattle.model.proofs.tables.Routing.{wf_all_short}
use Rattle.model.proofs.tables.NewPivot.{Strictly, new_strictly, strictly_cutoff, strictly_inside}
use Rattle.model.proofs.calls.TableCalls.{length_elements, table_wf, table_count, table_edges_short, table_encode, table_encode_edges, wrong_key}
use Rattle.model.proofs.cuts.Insertion.{insert_length}

module _ (p e : List ℕ) (k : Key) (h : first (new_pivot_causes p e k) ≡ none) where
  -- the slot
  abbrev c : ℕ
  c = Route (elements p) k

  -- the table has none of the causes 1 to 4
  pub insert_table : first (table_causes false (too_long k) p e) ≡ none
  insert_table = none_before _ _ h

  wf : WFPivots (elements p) ≡ true
  wf = table_wf false (too_long k) p e insert_table

  -- and the key neither 5 nor 11
  range : first ((not (ContainsRange (elements p) (key k) (key k)) ⇒ OutOfRange) ∷
      (is_pivot (elements p) k ⇒ AlreadyPivot) ∷
      (too_many_pivots (inserted_pivots p k) ⇒ TooManyPivots) ∷ []) ≡ none
  range = none_after (table_causes false (too_long k) p e) _ h

  -- the key lies strictly in its slot
  pub insert_strictly : Strictly (elements p) c k
  insert_strictly =
      new_strictly (elements p) k wf (not-false _ (none_here _ OutOfRange _ range)) (none_here _ AlreadyPivot _ (none_later _ OutOfRange _ range))

  -- nor 12
  pub insert_few : length (inserted_pivots p k) ≤ max_pivots
  insert_few = ltb-false max_pivots _ (none_here _ TooManyPivots [] (none_later _ AlreadyPivot _ (none_later _ OutOfRange _ range)))

  -- the key has at most 64 bytes
  pub insert_key : length k ≤ max_len
  insert_key = wrong_key false p e k insert_table

  -- both cuts at the key have none of the causes 1 to 5
  pub insert_found : (left : Bool) → first (edge_slot_causes p e k (inside left (elements p) k)) ≡ none
  unfolding outcome
  insert_found left =
      let i = strictly_inside (elements p) k wf c insert_strictly left in
      sym (after some none _ (table_causes false (too_long k) p e) _ insert_table (rw i))

  -- in this slot
  pub insert_cutoff : (left : Bool) → c ≡ cutoff left (elements p) k
  insert_cutoff left = sym (strictly_cutoff (elements p) k wf c insert_strictly left)

  -- ---- what is written

  -- the two halves' edges
  abbrev left_edge : Edge
  left_edge = cut_slot_edge true (elements p) (edges e) k

  abbrev right_edge : Edge
  right_edge = cut_slot_edge false (elements p) (edges e) k

  pub insert_count : length (inserted_pivots p k) ≡ length p / record_size + 1
  insert_count = insert_length (elements p) k c (omega (arith, insert_strictly.slot)) ∙ rw (length_elements p)

  edges_list : inserted_edges p e k ≡ take c (edges e) ++ ((left_edge ∷ right_edge ∷ []) ++ drop (c + 1) (edges e))
  unfolding InsertPivotEdges
  edges_list = rw (← insert_cutoff true, ← insert_cutoff false)

  -- no pivot is too long
  pub insert_pivots_short : all short_element (inserted_pivots p k) ≡ true
  unfolding InsertPivot all
  insert_pivots_short =
      let s = wf_all_short (elements p) wf in
      rw (all_append short_element (take (c + 1) (elements p)) _, (all_parts short_element (c + 1) (elements p) s).0, le-leb (length k) max_len insert_key)
      (all_parts short_element (c + 1) (elements p) s).1

  pub insert_pivots_bytes : Bytes p
      → encode_all (inserted_pivots p k) ≡ take ((c + 1) * record_size) p ++ (record_of (length k) k ++ drop ((c + 1) * record_size) p)
  unfolding encode_all encode joined InsertPivot
  insert_pivots_bytes b =
      let s = insert_strictly.slot in
      rw append-nil at (joined_parts record_size short_element encode length_encode (c + 1) (c + 1) (elements p) (key k ∷ []) p
      (table_encode _ _ p e insert_table b) (omega arith) (omega arith) (wf_all_short (elements p) wf))

  pub insert_edges_bytes : Bytes e
      → encode_edges (inserted_edges p e k) ≡ take (c * record_size) e ++ ((encode_edge left_edge ++ encode_edge right_edge) ++ drop ((c + 1) * record_size) e)
  unfolding encode_edges joined
  insert_edges_bytes b =
      let s = insert_strictly.slot in
      let n = table_count _ _ p e insert_table in
      rw edges_list
      (rw append-nil at (joined_parts record_size short_edge encode_edge length-encode_edge c (c + 1) (edges e) (left_edge ∷ right_edge ∷ []) e
      (table_encode_edges _ _ p e insert_table b) (omega arith) (omega arith) (table_edges_short _ _ p e insert_table)))

  -- beside short edges only those of the halves may be long
  pub insert_short : all short_edge (inserted_edges p e k) ≡ (short_edge left_edge && short_edge right_edge)
  unfolding all
  insert_short =
      let s = table_edges_short _ _ p e insert_table in
      rw (edges_list, all_append short_edge (take c (edges e)) _, (all_parts short_edge c (edges e) s).0, (all_parts short_edge (c + 1) (edges e) s).1, and-true)

  -- a long edge of either half makes the edges long
  pub insert_half_long : (left : Bool) → short_edge (cut_slot_edge left (elements p) (edges e) k) ≡ false → all short_edge (inserted_edges p e k) ≡ false
  insert_half_long true f = insert_short ∙ rw f
  insert_half_long false f = insert_short ∙ rw f (and-false (short_edge left_edge))
