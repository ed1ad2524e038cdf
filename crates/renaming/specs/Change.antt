-- For the contracts of inner functions: pivots v whose prefix p can be changed to q, and the last causes of TranslatePivots.
use Rattle.std.specs.Prelude.{◌≡◌, true, not, List, [], ◌∷◌, ℕ, ◌*◌, length}
use Rattle.std.proofs.Math.Option.{none}
use Rattle.model.specs.declared.Refusal.TheVariants.{NotBelow, NoRoom}
use Rattle.model.specs.keys.Key.{Key}
use Rattle.model.specs.keys.Order.{lt}
use Rattle.model.specs.records.Record.{record_size, element, elements}
use Rattle.model.specs.tables.Tables.{WFPivots}
use Rattle.model.specs.calls.Refusals.{Cause, ◌⇒◌, first}
use Rattle.model.specs.calls.KeyCalls.{no_room}
use Rattle.model.specs.calls.RenamingCalls.{new_pivots, last_translated}
use Rattle.changed_pivots.specs.Renamed.{changeable_causes}

-- causes 9 and 10, with the end n and the destination d
abbrev pub end_causes : List ℕ → Key → Key → List ℕ → List ℕ → List Cause
end_causes v p q n d =
    (not (lt (last_translated v p q) (element n)) ⇒ NotBelow) ∷
    (no_room (length (new_pivots v p q n) * record_size) d ⇒ NoRoom) ∷ []

-- the pivots are well formed, and neither 7 nor 8 applies
pub record Changeable (v : List ℕ) (p q : Key) : Type 0 where
  pub wf : WFPivots (elements v) ≡ true
  pub none_applies : first (changeable_causes v p q) ≡ none
