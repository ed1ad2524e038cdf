-- The slot that an insertion of k finds in pivots p and edges e, and the edges of its halves.
use Rattle.std.specs.Prelude.{◌≡◌, true, false, not, List, [], ◌∷◌, ◌++◌, ℕ}
use Rattle.std.proofs.Math.Option.{none}
use Rattle.model.specs.declared.Refusal.TheVariants.{TooLong}
use Rattle.model.specs.keys.Key.{Key}
use Rattle.model.specs.records.Record.{elements, encode_edge}
use Rattle.model.specs.tables.Tables.{EdgeTable, all, short_edge, Route}
use Rattle.model.specs.calls.Refusals.{Cause, ◌⇒◌, first}
use Rattle.model.specs.calls.InsertionCalls.{new_pivot_causes}
use Rattle.slot_edges.specs.Slot.{Found, edge_cut}

-- none of the causes 1 to 5, 11 and 12 of an insertion applies, and c is the slot, also of both cuts
abbrev pub New : List ℕ → List ℕ → Key → ℕ → Type 0
New p e k c = (first (new_pivot_causes p e k) ≡ none) × (c ≡ Route (elements p) k) × (Found true p e k c) × (Found false p e k c)

-- the edges of the slot's halves, as records
abbrev pub edges_cut : List ℕ → List ℕ → Key → List ℕ
edges_cut p e k = encode_edge (edge_cut true p e k) ++ encode_edge (edge_cut false p e k)

-- cause 8 of several edges
abbrev pub long_edges : EdgeTable → List Cause
long_edges et = (not (all short_edge et) ⇒ TooLong) ∷ []
