-- A slot of a table without causes, by the records of its pivots and its edge; and the causes that are left.
use Rattle.std.specs.Prelude.{◌≡◌, true, not, List, [], ◌∷◌, ℕ, ◌≤◌, ltb, length}
use Rattle.model.specs.declared.Refusal.TheVariants.{NoSuchSlot, TooLong}
use Rattle.model.specs.keys.Key.{max_len}
use Rattle.model.specs.keys.Order.{key, lt}
use Rattle.model.specs.records.Record.{record_size, edge, key_bytes, reading, element_reading, element, elements, edges}
use Rattle.model.specs.translation.Renaming.{Bounds}
use Rattle.model.specs.translation.ParentChild.{bounds_under, slot_bounds}
use Rattle.model.specs.calls.Refusals.{Cause, ◌⇒◌}
use Rattle.model.specs.calls.RenamingCalls.{long_bounds}

-- the left pivot is a short key below the right one, which is an element, and the edge is short
pub record Slot (l r x : List ℕ) : Type 0 where
  pub left : length (key_bytes l) ≤ max_len
  pub size : length r ≡ record_size
  pub right : element_reading (reading r) ≡ true
  pub edge : length (key_bytes x) ≤ max_len
  pub rises : lt (key (key_bytes l)) (element r) ≡ true

-- its bounds under the edge
unfoldable pub new_range : List ℕ → List ℕ → List ℕ → Bounds
new_range l r x = bounds_under (key (key_bytes l)) (element r) (edge (key_bytes x))

-- cause 8
abbrev pub long_range_causes : Bounds → List Cause
long_range_causes b = (long_bounds b ⇒ TooLong) ∷ []

-- causes 6 and 8 of a parent's pivots p and edges e
abbrev pub asked_causes : List ℕ → List ℕ → ℕ → List Cause
asked_causes p e slot =
    (not (ltb slot (length (edges e))) ⇒ NoSuchSlot) ∷ long_range_causes (slot_bounds (elements p) (edges e) slot)
