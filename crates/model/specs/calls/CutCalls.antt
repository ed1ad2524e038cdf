-- The cuts: for each call its causes in order, its answer, and what it leaves in each destination.
use Rattle.std.specs.Prelude.{Bool, not, ◌||◌, List, [], ◌∷◌, ◌++◌, ℕ, ◌*◌, length, Result}
use Rattle.model.specs.declared.Refusal.{Refusal}
use Rattle.model.specs.declared.Refusal.TheVariants.{TooLong, NoRoom}
use Rattle.model.specs.keys.Key.{Key}
use Rattle.model.specs.records.Record.{record_size, elements, edges, encode_all, encode_edges}
use Rattle.model.specs.tables.Tables.{PivotTable, EdgeTable, all, short_edge}
use Rattle.model.specs.cuts.Sides.{inside, Split, SplitEdges}
use Rattle.model.specs.calls.Refusals.{Cause, ◌⇒◌, answer, leaves}
use Rattle.model.specs.calls.KeyCalls.{no_room}
use Rattle.model.specs.calls.TableCalls.{edge_slot_causes}

-- A cut at k on the left or the right side, pivots into dp and edges into de

-- the pivots and the edges that a cut leaves
abbrev pub cut_pivots : Bool → List ℕ → Key → PivotTable
cut_pivots left p k = Split left (elements p) k

abbrev pub cut_edges : Bool → List ℕ → List ℕ → Key → EdgeTable
cut_edges left p e k = SplitEdges left (edges e) (elements p) k

-- "A destination is too short": either of the two, for m bytes of pivots and n of edges
abbrev pub room_causes : ℕ → ℕ → List ℕ → List ℕ → List Cause
room_causes m n dp de = (no_room m dp || no_room n de ⇒ NoRoom) ∷ []

-- "A produced key passes 64 bytes", and then that a destination is too short
abbrev pub write_causes : PivotTable → EdgeTable → List ℕ → List ℕ → List Cause
write_causes pt et dp de = (not (all short_edge et) ⇒ TooLong) ∷ room_causes (length pt * record_size) (length et * record_size) dp de

abbrev pub cut_causes : Bool → List ℕ → List ℕ → Key → List ℕ → List ℕ → List Cause
cut_causes left p e k dp de =
    edge_slot_causes p e k (inside left (elements p) k) ++ write_causes (cut_pivots left p k) (cut_edges left p e k) dp de

-- "Answer: the number of pivots written"
abbrev pub cut_answer : Bool → List ℕ → List ℕ → Key → List ℕ → List ℕ → Result ℕ Refusal
cut_answer left p e k dp de = answer (cut_causes left p e k dp de) (length (cut_pivots left p k))

abbrev pub cut_leaves_pivots : Bool → List ℕ → List ℕ → Key → List ℕ → List ℕ → List ℕ
cut_leaves_pivots left p e k dp de = leaves (cut_causes left p e k dp de) (encode_all (cut_pivots left p k)) dp

abbrev pub cut_leaves_edges : Bool → List ℕ → List ℕ → Key → List ℕ → List ℕ → List ℕ
cut_leaves_edges left p e k dp de = leaves (cut_causes left p e k dp de) (encode_edges (cut_edges left p e k)) de
