-- For the contract of an inner function: the causes of a change of prefix, by the room that a destination has.
use Rattle.std.specs.Prelude.{not, ◌||◌, List, [], ◌∷◌, ℕ, ltb, length}
use Rattle.model.specs.declared.Refusal.TheVariants.{Malformed, NotPrefix, TooLong, NoRoom}
use Rattle.model.specs.keys.Key.{Key, too_long, IsPrefix, change_prefix}
use Rattle.model.specs.calls.Refusals.{Cause, ◌⇒◌}

-- change_prefix_causes, whose destination has this length
abbrev pub changed_causes : Key → Key → Key → ℕ → List Cause
changed_causes k p q room =
    (too_long k || too_long p || too_long q ⇒ Malformed) ∷
    (not (IsPrefix p k) ⇒ NotPrefix) ∷
    (too_long (change_prefix p q k) ⇒ TooLong) ∷ (ltb room (length (change_prefix p q k)) ⇒ NoRoom) ∷ []
