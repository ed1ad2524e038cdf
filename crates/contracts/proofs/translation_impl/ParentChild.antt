-- TranslationImpl, lines 532 to 551: whether a child's table holds what a parent's slot leads to.
use Rattle.std.specs.Prelude.{Ok, Err}
use mathlib.Core.Path.{◌≡◌, refl, ◌∙◌}
use mathlib.Core.Bool.{true, false, not, ◌&&◌, ◌||◌}
use mathlib.Core.List.{List, [], ◌∷◌, ◌++◌}
use mathlib.Core.Option.{none, some}
use Prim.Native.Nat.{ℕ, ◌≤◌, ◌<◌}
use borrow.Author.Tests.{le-ltb, lt-ltb}
use lib.ListN.{length}
use Rattle.model.specs.declared.Refusal.TheVariants.{Shape, Unsorted, EmptyPrefix, NoSuchSlot, TooLong}
use Rattle.model.specs.records.Record.{records, elements, edges, encode_all, encode_edges}
use Rattle.model.specs.tables.Tables.{PivotTable, EdgeTable, max_pivots, all, short_element, short_edge, IsStrictlySorted, WFPivots, WFEdges}
use Rattle.model.specs.translation.ParentChild.{slot_bounds, ParentKeysInChildRange}
use Rattle.model.specs.calls.Refusals.{Cause, ◌⇒◌, outcome, first}
use Rattle.model.specs.calls.TableCalls.{not_pivot_count, not_edge_count, pivots_read, edges_read, pivot_causes}
use Rattle.model.specs.calls.ParentChildCalls.{three_tables_causes, parent_child_causes, parent_child_answer}
use Rattle.model.proofs.calls.Refusals.{or_left, or_right, or_neither, not_holds, not_fails, none_here, none_before, none_after}
use Rattle.model.proofs.calls.TableCalls.{either_fails, causes_shape, causes_wrong, causes_read, causes_wf, table_pivots}
use Rattle.model.proofs.tables.Routing.{wf_sorted}
use Rattle.contracts.specs.Refuses.{RefusesAt, Refuses}
use Rattle.contracts.proofs.Refusing.{refuses_at, too_many, clause_refused, more_refused, call_refuses, pivots_refused, Refused}
use Rattle.contracts.proofs.Lent.{accepted, go_on, pivots_read_lem, pivots_lent, edges_read_lem, table_lent}

-- ---- lent any bytes

module _ (p e c : List ℕ) (slot : ℕ) where
  -- the causes of the parent's pivots, with 1 and 2 of the other two
  abbrev pivots : List Cause
  pivots = pivot_causes (not_edge_count p e || not_pivot_count c) (not (edges_read (records e)) || not (pivots_read (records c))) p

  refuses : (n : ℕ) → Refused n (three_tables_causes p e c) → Refuses Err n (parent_child_answer p e c slot)
  refuses n h = call_refuses _ _ n (parent_child_causes p e c slot) (more_refused n (three_tables_causes p e c) _ h)

  -- requires WFPivots(parentpivots)
  pub translation_impl_534 : WFPivots (elements p) ≡ false → Refuses Err 3 (parent_child_answer p e c slot)
  translation_impl_534 h = refuses 3 (more_refused 3 pivots _ (pivots_refused _ _ p h))

  -- and with 3 of the child's
  abbrev sorted : List Cause
  sorted = pivots ++ (not (IsStrictlySorted (elements c)) ⇒ Unsorted) ∷ []

  child_wf : first sorted ≡ none → WFPivots (elements c) ≡ true
  child_wf h =
      let a = none_before pivots _ h in
      let s = (either_fails (not_edge_count p e) (not_pivot_count c) (causes_shape _ _ p a)).1 in
      let r = (either_fails (not (edges_read (records e))) (not (pivots_read (records c))) (causes_wrong _ _ p a)).1 in
      let t = none_here (not (IsStrictlySorted (elements c))) Unsorted [] (none_after pivots _ h) in
      causes_wf false false c (unfold pivot_causes outcome in rw (s, r, t))

  -- requires WFPivots(childpivots)
  pub translation_impl_535 : WFPivots (elements c) ≡ false → Refuses Err 3 (parent_child_answer p e c slot)
  unfolding pivot_causes
  translation_impl_535 h =
      refuses 3 (more_refused 3 sorted _ (clause_refused 3 sorted (WFPivots (elements c)) refl child_wf h))

  -- requires WFEdges(parentedges, parentpivots)
  pub translation_impl_536 : WFEdges (edges e) (elements p) ≡ false → RefusesAt Err (parent_child_causes p e c slot) 4 EmptyPrefix (parent_child_answer p e c slot)
  unfolding pivot_causes
  translation_impl_536 h = refuses_at _ _ (parent_child_causes p e c slot) 4 _ _ _ refl (not_fails _ h)

  -- requires 0 <= slot as int < |parentedges|
  pub translation_impl_537 : length (edges e) ≤ slot → RefusesAt Err (parent_child_causes p e c slot) 5 NoSuchSlot (parent_child_answer p e c slot)
  unfolding pivot_causes
  translation_impl_537 h = refuses_at _ _ (parent_child_causes p e c slot) 5 _ _ _ refl (not_fails _ (le-ltb slot (length (edges e)) h))

  -- requires |parentpivots| < Uint64UpperBound()
  pub translation_impl_538 : max_pivots < length (elements p) → RefusesAt Err (parent_child_causes p e c slot) 0 Shape (parent_child_answer p e c slot)
  unfolding pivot_causes
  translation_impl_538 h = refuses_at _ _ (parent_child_causes p e c slot) 0 _ _ _ refl (or_right (not_edge_count p e || not_pivot_count c) _ (too_many p h))

  -- requires |childpivots| < 0x4000_0000_0000_0000
  pub translation_impl_539 : max_pivots < length (elements c) → RefusesAt Err (parent_child_causes p e c slot) 0 Shape (parent_child_answer p e c slot)
  unfolding pivot_causes
  translation_impl_539 h = refuses_at _ _ (parent_child_causes p e c slot) 0 _ _ _ refl (or_left _ _ (or_right (not_edge_count p e) _ (too_many c h)))

  -- ensures b == ParentKeysInChildRange(parentpivots, parentedges, childpivots, slot as int)
  -- where a bound of the slot, translated, passes 64 bytes, the question is refused
  pub translation_impl_540b : (short_element (slot_bounds (elements p) (edges e) slot).left && short_element (slot_bounds (elements p) (edges e) slot).right) ≡ false
      → RefusesAt Err (parent_child_causes p e c slot) 6 TooLong (parent_child_answer p e c slot)
  unfolding pivot_causes
  translation_impl_540b h = refuses_at _ _ (parent_child_causes p e c slot) 6 _ _ _ refl (not_fails _ h)

-- ---- lent the records of a parent's table with its edges, and of a child's

module _ (parent : PivotTable) (et : EdgeTable) (child : PivotTable) (slot : ℕ)
    (w : WFPivots parent ≡ true) (m : length parent ≤ max_pivots) (x : WFEdges et parent ≡ true) (s : all short_edge et ≡ true)
    (v : WFPivots child ≡ true) (n : length child ≤ max_pivots) (i : slot < length et)
    (l : short_element (slot_bounds parent et slot).left ≡ true) (r : short_element (slot_bounds parent et slot).right ≡ true) where
  abbrev p : List ℕ
  p = encode_all parent

  abbrev e : List ℕ
  e = encode_edges et

  abbrev c : List ℕ
  c = encode_all child

  parent_lent : first (pivot_causes (not_edge_count p e) (not (edges_read (records e))) p) ≡ none
  parent_lent = table_pivots false false p e (table_lent parent et w m x s false refl)

  child_lent : first (pivot_causes false false c) ≡ none
  child_lent = pivots_lent child v false false n refl refl

  child_count : not_pivot_count c ≡ false
  unfolding pivot_causes
  child_count = none_here (not_pivot_count c) Shape _ child_lent

  tables_lent : first (three_tables_causes p e c) ≡ none
  unfolding outcome
  tables_lent =
      go_on some none (pivots p e c slot) _
      (pivots_lent parent w _ _ m
      (or_neither _ _ (causes_shape _ _ p parent_lent) child_count)
      (or_neither _ _ (causes_wrong _ _ p parent_lent) (not_holds _ (causes_read false false c child_lent))))
      ∙ rw (pivots_read_lem child v, wf_sorted child v, pivots_read_lem parent w, edges_read_lem parent et w m x s, x)

  question_lent : first (parent_child_causes p e c slot) ≡ none
  unfolding outcome
  question_lent = go_on some none (three_tables_causes p e c) _ tables_lent ∙ rw (pivots_read_lem parent w, edges_read_lem parent et w m x s, lt-ltb slot (length et) i, l, r)

  -- ensures b == ParentKeysInChildRange(parentpivots, parentedges, childpivots, slot as int)
  pub translation_impl_540 : parent_child_answer (encode_all parent) (encode_edges et) (encode_all child) slot ≡ Ok (ParentKeysInChildRange parent et child slot)
  translation_impl_540 =
      accepted _ _ (parent_child_causes p e c slot) question_lent ∙ rw (pivots_read_lem parent w, edges_read_lem parent et w m x s, pivots_read_lem child v)
