-- Two tables put together: the causes in order, the answer, and what is left in each destination.
use Rattle.std.specs.Prelude.{List, [], ◌∷◌, ◌++◌, false, ℕ, ◌*◌, length, Result}
use Rattle.model.specs.declared.Refusal.{Refusal}
use Rattle.model.specs.declared.Refusal.TheVariants.{NotMeeting, TooManyPivots}
use Rattle.model.specs.records.Record.{record_size, elements, edges, encode_all, encode_edges}
use Rattle.model.specs.tables.Tables.{PivotTable, EdgeTable}
use Rattle.model.specs.cuts.Join.{not_meeting, JoinPivots, JoinEdges}
use Rattle.model.specs.calls.Refusals.{Cause, ◌⇒◌, paired, answer, leaves}
use Rattle.model.specs.calls.TableCalls.{table_causes}
use Rattle.model.specs.calls.CutCalls.{room_causes}
use Rattle.model.specs.calls.InsertionCalls.{too_many_pivots}

-- The first table has pivots p and edges e, the second q and f; pivots go into dp and edges into de

-- causes 1 to 4 of both tables, all four slices by number
abbrev pub two_tables_causes : List ℕ → List ℕ → List ℕ → List ℕ → List Cause
two_tables_causes p e q f = paired (table_causes false false p e) (table_causes false false q f)

-- the pivots and the edges that a join leaves
abbrev pub joined_pivots : List ℕ → List ℕ → PivotTable
joined_pivots p q = JoinPivots (elements p) (elements q)

abbrev pub joined_edges : List ℕ → List ℕ → EdgeTable
joined_edges e f = JoinEdges (edges e) (edges f)

-- "13, the meeting pivots differ or are max, after 4; 12 also for a joined table over 64 pivots, after 13"
abbrev pub meeting_causes : List ℕ → List ℕ → List ℕ → List ℕ → List Cause
meeting_causes p e q f =
    two_tables_causes p e q f
    ++ ((not_meeting (elements p) (elements q) ⇒ NotMeeting) ∷
    (too_many_pivots (joined_pivots p q) ⇒ TooManyPivots) ∷ [])

-- all causes of a joining: behind those of the tables that meet 10; nothing is made longer, so there is no 8
abbrev pub join_causes : List ℕ → List ℕ → List ℕ → List ℕ → List ℕ → List ℕ → List Cause
join_causes p e q f dp de =
    meeting_causes p e q f
    ++ room_causes (length (joined_pivots p q) * record_size) (length (joined_edges e f) * record_size) dp de

-- "like every later call that writes a table, answers the number of pivots written"
abbrev pub join_answer : List ℕ → List ℕ → List ℕ → List ℕ → List ℕ → List ℕ → Result ℕ Refusal
join_answer p e q f dp de = answer (join_causes p e q f dp de) (length (joined_pivots p q))

abbrev pub join_leaves_pivots : List ℕ → List ℕ → List ℕ → List ℕ → List ℕ → List ℕ → List ℕ
join_leaves_pivots p e q f dp de = leaves (join_causes p e q f dp de) (encode_all (joined_pivots p q)) dp

abbrev pub join_leaves_edges : List ℕ → List ℕ → List ℕ → List ℕ → List ℕ → List ℕ → List ℕ
join_leaves_edges p e q f dp de = leaves (join_causes p e q f dp de) (encode_edges (joined_edges e f)) de
