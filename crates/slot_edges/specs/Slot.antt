-- The slot that a cut at k finds in pivots p and edges e, and its cut edge: by the records at a place, and by the table.
use Rattle.std.specs.Prelude.{◌≡◌, Bool, true, false, not, List, [], ◌∷◌, ℕ, ◌+◌, Result}
use Rattle.std.proofs.Math.Option.{none}
use Rattle.model.specs.declared.Refusal.{Refusal}
use Rattle.model.specs.declared.Refusal.TheVariants.{TooLong}
use Rattle.model.specs.keys.Key.{Key, max_len}
use Rattle.model.specs.keys.Order.{key}
use Rattle.model.specs.records.Record.{Edge, edge, no_edge, key_bytes, element, edge_of, zeros, encode_edge, elements, edges}
use Rattle.model.specs.ranges.RangePrefix.{PivotLcp}
use Rattle.model.specs.tables.Tables.{short_edge}
use Rattle.model.specs.cuts.Cuts.{cut_edge}
use Rattle.model.specs.cuts.Sides.{inside, cutoff}
use Rattle.model.specs.calls.Refusals.{Cause, ◌⇒◌, outcome, first, answer}
use Rattle.model.specs.calls.KeyCalls.{change_prefix_causes}
use Rattle.model.specs.calls.TableCalls.{edge_slot_causes}
use Rattle.model.specs.inner.CutSlot.{cut_slot_edge}
use Rattle.model.specs.inner.Places.{record_at}
use Rattle.model.specs.inner.Written.{into}

-- ---- the edge of the record r where its range's prefix grows from p to q

-- why it can't be cut: an edge is q with its prefix p changed to that edge, made in 64 bytes; no edge has no cause
abbrev pub grown_causes : Key → Key → Edge → List Cause
grown_causes p q (edge b) = change_prefix_causes q p b (zeros max_len)
grown_causes p q no_edge = []

-- the record that is written: the cut edge's, and for no edge r as it is
abbrev pub grown_record : Key → Key → List ℕ → Edge → List ℕ
grown_record p q r (edge b) = encode_edge (cut_edge p q (edge b))
grown_record p q r no_edge = r

-- what making it answers
unfoldable pub grown_answer : Key → Key → List ℕ → Result ℕ Refusal
grown_answer p q r = answer (grown_causes p q (edge_of r)) 1

-- what making it leaves in d: the record as far as there is room, and d as it was where a cause applies
unfoldable pub grown_leaves : Key → Key → List ℕ → List ℕ → List ℕ
grown_leaves p q r d = outcome (λ (_ : Refusal). d) (grown_causes p q (edge_of r)) (into (grown_record p q r (edge_of r)) d)

-- ---- slot c, by the records at c and c + 1

-- the prefix of its range
unfoldable pub slot_prefix : List ℕ → ℕ → Key
slot_prefix p c = PivotLcp (key (key_bytes (record_at p c))) (element (record_at p (c + 1)))

-- the prefix of what a cut at k leaves of it, on the left and on the right
unfoldable pub cut_prefix : Bool → List ℕ → Key → ℕ → Key
cut_prefix true p k c = PivotLcp (key (key_bytes (record_at p c))) (key k)
cut_prefix false p k c = PivotLcp (key k) (element (record_at p (c + 1)))

-- what making its cut edge answers
unfoldable pub slot_edge_answer : Bool → List ℕ → List ℕ → Key → ℕ → Result ℕ Refusal
slot_edge_answer left p e k c = grown_answer (slot_prefix p c) (cut_prefix left p k c) (record_at e c)

-- what making its cut edge leaves in d
unfoldable pub slot_edge_leaves : Bool → List ℕ → List ℕ → Key → ℕ → List ℕ → List ℕ
slot_edge_leaves left p e k c d = grown_leaves (slot_prefix p c) (cut_prefix left p k c) (record_at e c) d

-- ---- the cut slot, by the table

-- none of the causes 1 to 5 applies, and c is the slot
abbrev pub Found : Bool → List ℕ → List ℕ → Key → ℕ → Type 0
Found left p e k c = (first (edge_slot_causes p e k (inside left (elements p) k)) ≡ none) × (c ≡ cutoff left (elements p) k)

-- its edge, cut
unfoldable pub edge_cut : Bool → List ℕ → List ℕ → Key → Edge
edge_cut left p e k = cut_slot_edge left (elements p) (edges e) k

-- cause 8 of an edge
abbrev pub long_edge_causes : Edge → List Cause
long_edge_causes e = (not (short_edge e) ⇒ TooLong) ∷ []
