-- The range from the key l up to what the record r stands for, its prefix p changed to q: what is known of arguments without the causes 1, 2 and 7, and the causes left.
use Rattle.std.specs.Prelude.{◌≡◌, Bool, true, false, not, List, [], ◌∷◌, ℕ, ◌*◌, ◌≤◌, length}
use Rattle.model.specs.declared.Refusal.TheVariants.{TooLong, NotBelow, NoRoom}
use Rattle.model.specs.keys.Key.{Key, max_len, IsPrefix}
use Rattle.model.specs.keys.Order.{Element, key, max, lt}
use Rattle.model.specs.records.Record.{record_size, reading, element_reading, element}
use Rattle.model.specs.calls.Refusals.{Cause, ◌⇒◌}
use Rattle.model.specs.calls.KeyCalls.{no_room}
use Rattle.model.specs.calls.RenamingCalls.{long_bounds, new_bounds}

-- an element that is a key and begins with the prefix
abbrev pub has_prefix : Key → Element → Bool
has_prefix p (key k) = IsPrefix p k
has_prefix p max = false

-- the keys are short, the record holds an element, and the range's left bound begins with the prefix
pub record Prefixed (l r p q : List ℕ) : Type 0 where
  pub left : length l ≤ max_len
  pub right : element_reading (reading r) ≡ true
  pub new : length q ≤ max_len
  pub begins : IsPrefix p l ≡ true

-- the causes 8, 9 and 10
abbrev pub range_causes : Key → List ℕ → Key → Key → List ℕ → List Cause
range_causes l r p q d =
    (long_bounds (new_bounds l r p q) ⇒ TooLong) ∷
    (not (lt (key l) (element r)) ⇒ NotBelow) ∷
    (no_room (2 * record_size) d ⇒ NoRoom) ∷ []
