-- The question of parent and child: its causes in order, and its answer.
use Rattle.std.specs.Prelude.{Bool, not, ◌||◌, List, [], ◌∷◌, ◌++◌, ℕ, ltb, length, Result}
use Rattle.model.specs.declared.Refusal.{Refusal}
use Rattle.model.specs.declared.Refusal.TheVariants.{Unsorted, EmptyPrefix, NoSuchSlot, TooLong}
use Rattle.model.specs.records.Record.{records, elements, edges}
use Rattle.model.specs.tables.Tables.{IsStrictlySorted}
use Rattle.model.specs.translation.ParentChild.{slot_bounds, ParentKeysInChildRange}
use Rattle.model.specs.calls.Refusals.{Cause, ◌⇒◌, answer}
use Rattle.model.specs.calls.TableCalls.{not_pivot_count, not_edge_count, pivots_read, edges_read, edges_stand, pivot_causes}
use Rattle.model.specs.calls.RenamingCalls.{long_bounds}

-- causes 1, 2 and 3 of a parent's pivots p and edges e and a child's pivots c, then 4 of the parent
abbrev pub three_tables_causes : List ℕ → List ℕ → List ℕ → List Cause
three_tables_causes p e c =
    pivot_causes (not_edge_count p e || not_pivot_count c) (not (edges_read (records e)) || not (pivots_read (records c))) p
    ++ (not (IsStrictlySorted (elements c)) ⇒ Unsorted) ∷ (not (edges_stand p e) ⇒ EmptyPrefix) ∷ []

-- "Refuses 6, and 8 for a translated bound"
abbrev pub parent_child_causes : List ℕ → List ℕ → List ℕ → ℕ → List Cause
parent_child_causes p e c slot =
    three_tables_causes p e c
    ++ (not (ltb slot (length (edges e))) ⇒ NoSuchSlot) ∷
    (long_bounds (slot_bounds (elements p) (edges e) slot) ⇒ TooLong) ∷ []

abbrev pub parent_child_answer : List ℕ → List ℕ → List ℕ → ℕ → Result Bool Refusal
parent_child_answer p e c slot =
    answer (parent_child_causes p e c slot) (ParentKeysInChildRange (elements p) (edges e) (elements c) slot)
