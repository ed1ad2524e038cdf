-- A join by its bytes: two tables that have none of the causes 1 to 4, 13 and 12, and which records are written.
use mathlib.Core.Path.{◌≡◌, sym, ◌∙◌}
use mathlib.Core.Bool.{true, false, not}
use mathlib.Core.List.{List, [], ◌∷◌, ◌++◌}
use mathlib.Core.Option.{none, some}
use Prim.Native.Nat.{ℕ, ◌≤◌}
use native.Mathlib.Omega.{arith}
use borrow.Author.Tests.{not-false, ltb-false}
use lib.ListN.{length, drop}
use Rattle.model.specs.declared.Refusal.TheVariants.{NotMeeting, TooManyPivots}
use Rattle.model.specs.keys.Key.{Key, Bytes}
use Rattle.model.specs.keys.Order.{key, is_key, same}
use Rattle.model.specs.records.Record.{record_size, elements, edges, encode, encode_edge, encode_all, encode_edges}
use Rattle.model.specs.tables.Tables.{max_pivots, pivot_at, last_pivot, all, short_element, short_edge, GetKey}
use Rattle.model.specs.cuts.Join.{not_meeting, JoinPivots, JoinEdges}
use Rattle.model.specs.calls.Refusals.{◌⇒◌, outcome, first}
use Rattle.model.specs.calls.TableCalls.{table_causes}
use Rattle.model.specs.calls.InsertionCalls.{too_many_pivots}
use Rattle.model.specs.calls.JoinCalls.{two_tables_causes, joined_pivots, joined_edges, meeting_causes}
use Rattle.model.proofs.Lists.{all_append, all_parts}
use Rattle.model.proofs.keys.Key.{both}
use Rattle.model.proofs.keys.Order.{lte_refl, lte_antisym, refuted}
use Rattle.model.proofs.records.Record.{length_encode}
use Rattle.model.proofs.records.Records.{joined_append, joined_drop}
use Rattle.model.proofs.tables.Routing.{wf_keys, wf_count, wf_all_short, get_key}
use Rattle.model.proofs.calls.Refusals.{none_here, none_later, none_before, none_after, none_paired, paired_none, after}
use Rattle.model.proofs.calls.TableCalls.{either_fails, table_wf, table_edges, table_edges_short, table_encode, table_encode_edges}
use Rattle.model.proofs.cuts.Join.{Joinable}

module _ (p e q f : List ℕ) (h : first (two_tables_causes p e q f) ≡ none) where
  -- neither table has one of the causes 1 to 4
  pub first_table : first (table_causes false false p e) ≡ none
  first_table = (paired_none (table_causes false false p e) (table_causes false false q f) h).0

  pub second_table : first (table_causes false false q f) ≡ none
  second_table = (paired_none (table_causes false false p e) (table_causes false false q f) h).1

  -- the second begins with a key: there max would be cause 2
  pub second_begins : is_key (pivot_at (elements q) 0) ≡ true
  second_begins =
      let w = table_wf false false q f second_table in
      wf_keys (elements q) w 0 (omega (arith, wf_count (elements q) w))

  -- ---- what is written

  -- the first's pivots, and the second's but for the first record
  pub join_pivots_bytes : Bytes p → Bytes q → encode_all (joined_pivots p q) ≡ p ++ drop record_size q
  unfolding encode_all JoinPivots
  join_pivots_bytes b c =
      let w = table_wf false false q f second_table in
      let n = wf_count (elements q) w in
      rw (
        joined_append encode (elements p) (drop 1 (elements q)),
        joined_drop record_size short_element encode length_encode 1 (elements q) (omega arith) (wf_all_short (elements q) w),
        table_encode false false p e first_table b,
        table_encode false false q f second_table c,
      )

  -- the edges of both
  pub join_edges_bytes : Bytes e → Bytes f → encode_edges (joined_edges e f) ≡ e ++ f
  unfolding encode_edges JoinEdges
  join_edges_bytes b c =
      rw (joined_append encode_edge (edges e) (edges f), table_encode_edges false false p e first_table b, table_encode_edges false false q f second_table c)

  -- no pivot is too long
  pub join_pivots_short : all short_element (joined_pivots p q) ≡ true
  unfolding JoinPivots
  join_pivots_short =
      let s = wf_all_short (elements q) (table_wf false false q f second_table) in
      rw (all_append short_element (elements p) (drop 1 (elements q)), wf_all_short (elements p) (table_wf false false p e first_table))
      (all_parts short_element 1 (elements q) s).1

  -- no edge of the joined table is too long
  pub join_edges_short : all short_edge (joined_edges e f) ≡ true
  unfolding JoinEdges
  join_edges_short =
      rw (all_append short_edge (edges e) (edges f), table_edges_short false false p e first_table) (table_edges_short false false q f second_table)

module _ (p e q f : List ℕ) (h : first (meeting_causes p e q f) ≡ none) where
  -- the tables have none of the causes 1 to 4
  pub join_tables : first (two_tables_causes p e q f) ≡ none
  join_tables = none_before _ _ h

  rest : first ((not_meeting (elements p) (elements q) ⇒ NotMeeting) ∷ (too_many_pivots (joined_pivots p q) ⇒ TooManyPivots) ∷ []) ≡ none
  rest = none_after (two_tables_causes p e q f) _ h

  -- they meet
  meeting : not (same (last_pivot (elements p)) (pivot_at (elements q) 0)) ≡ false
  unfolding not_meeting
  meeting = (either_fails _ (not (is_key (pivot_at (elements q) 0))) (none_here _ NotMeeting _ rest)).0

  -- at this key
  abbrev meeting_key : Key
  meeting_key = GetKey (elements q) 0

  begins : pivot_at (elements q) 0 ≡ key meeting_key
  begins = get_key (elements q) 0 (second_begins p e q f join_tables)

  pub join_joinable : Joinable (elements p) (elements q) (edges e) (edges f) meeting_key
  join_joinable =
      let a = first_table p e q f join_tables in
      let b = second_table p e q f join_tables in
      let s = both _ _ (not-false _ meeting) in
      record {
        first_wf = table_wf false false p e a;
        second_wf = table_wf false false q f b;
        first_edges = table_edges false false p e a;
        second_edges = table_edges false false q f b;
        ends = lte_antisym (last_pivot (elements p)) (pivot_at (elements q) 0) s.0 s.1 ∙ begins;
        begins = begins;
      }

  -- together they have at most 64 pivots
  pub join_few : length (joined_pivots p q) ≤ max_pivots
  join_few = ltb-false max_pivots _ (none_here _ TooManyPivots [] (none_later _ NotMeeting _ rest))

-- two tables that have none of the causes 1 to 4
module _ (p e q f : List ℕ) (a : first (table_causes false false p e) ≡ none) (b : first (table_causes false false q f) ≡ none) where
  both_tables : first (two_tables_causes p e q f) ≡ none
  both_tables = none_paired (table_causes false false p e) (table_causes false false q f) a b

  -- where they meet, only 12 is left
  pub meeting_first : last_pivot (elements p) ≡ pivot_at (elements q) 0
      → first (meeting_causes p e q f) ≡ first ((too_many_pivots (joined_pivots p q) ⇒ TooManyPivots) ∷ [])
  unfolding outcome not_meeting
  meeting_first m =
      sym (after some none _ (two_tables_causes p e q f) _ both_tables (rw (m, lte_refl (pivot_at (elements q) 0), second_begins p e q f both_tables)))

  -- where they don't, 13 is the first
  pub apart_first : (last_pivot (elements p) ≡ pivot_at (elements q) 0 → ⊥) → first (meeting_causes p e q f) ≡ some NotMeeting
  unfolding outcome not_meeting
  apart_first n =
      let x = last_pivot (elements p) in
      let y = pivot_at (elements q) 0 in
      let s = refuted (same x y) (λ m. let t = both _ _ m in n (lte_antisym x y t.0 t.1)) in
      sym (after some none (some NotMeeting) (two_tables_causes p e q f) _ both_tables (rw s))
