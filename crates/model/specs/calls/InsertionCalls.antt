-- Insertion of a pivot: its causes in order, its answer, and what it leaves in each destination.
use Rattle.std.specs.Prelude.{Bool, false, not, List, [], ◌∷◌, ◌++◌, ℕ, ◌+◌, ltb, length, Result}
use Rattle.model.specs.declared.Refusal.{Refusal}
use Rattle.model.specs.declared.Refusal.TheVariants.{OutOfRange, AlreadyPivot, TooManyPivots}
use Rattle.model.specs.keys.Key.{Key, too_long}
use Rattle.model.specs.keys.Order.{key}
use Rattle.model.specs.records.Record.{elements, edges, encode_all, encode_edges}
use Rattle.model.specs.tables.Tables.{PivotTable, EdgeTable, max_pivots, ContainsRange, Route, is_pivot}
use Rattle.model.specs.cuts.Insertion.{InsertPivot, InsertPivotEdges}
use Rattle.model.specs.calls.Refusals.{Cause, ◌⇒◌, answer, leaves}
use Rattle.model.specs.calls.TableCalls.{table_causes}
use Rattle.model.specs.calls.CutCalls.{write_causes}

-- the pivots and the edges that an insertion of k leaves: k stands behind its slot's first pivot
abbrev pub inserted_pivots : List ℕ → Key → PivotTable
inserted_pivots p k = InsertPivot (elements p) (Route (elements p) k + 1) k

abbrev pub inserted_edges : List ℕ → List ℕ → Key → EdgeTable
inserted_edges p e k = InsertPivotEdges (edges e) (elements p) k

-- "the table would pass 64 pivots"
abbrev pub too_many_pivots : PivotTable → Bool
too_many_pivots pt = ltb max_pivots (length pt)

-- of the table and the key: "A key below the first or above the last pivot is 5; one equal to any pivot, first and last included, is 11"; 12 is "directly after 11"
abbrev pub new_pivot_causes : List ℕ → List ℕ → Key → List Cause
new_pivot_causes p e k =
    table_causes false (too_long k) p e
    ++ ((not (ContainsRange (elements p) (key k) (key k)) ⇒ OutOfRange) ∷
    (is_pivot (elements p) k ⇒ AlreadyPivot) ∷
    (too_many_pivots (inserted_pivots p k) ⇒ TooManyPivots) ∷ [])

-- k into pivots p with edges e; the pivots go into dp and the edges into de
abbrev pub insert_causes : List ℕ → List ℕ → Key → List ℕ → List ℕ → List Cause
insert_causes p e k dp de = new_pivot_causes p e k ++ write_causes (inserted_pivots p k) (inserted_edges p e k) dp de

-- "Insertion, like every later call that writes a table, answers the number of pivots written"
abbrev pub insert_answer : List ℕ → List ℕ → Key → List ℕ → List ℕ → Result ℕ Refusal
insert_answer p e k dp de = answer (insert_causes p e k dp de) (length (inserted_pivots p k))

abbrev pub insert_leaves_pivots : List ℕ → List ℕ → Key → List ℕ → List ℕ → List ℕ
insert_leaves_pivots p e k dp de = leaves (insert_causes p e k dp de) (encode_all (inserted_pivots p k)) dp

abbrev pub insert_leaves_edges : List ℕ → List ℕ → Key → List ℕ → List ℕ → List ℕ
insert_leaves_edges p e k dp de = leaves (insert_causes p e k dp de) (encode_edges (inserted_edges p e k)) de
