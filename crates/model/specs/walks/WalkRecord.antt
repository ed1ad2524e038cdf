-- A walk as a record of 266 bytes, for the boundary: tag and current key in 66 bytes each, a pair's record, the count.
use Rattle.std.specs.Prelude.{Bool, ◌||◌, List, [], ◌∷◌, ◌++◌, ℕ, ◌+◌, ltb, length, take, drop, get_or}
use Rattle.model.specs.keys.Key.{max_len}
use Rattle.model.specs.records.Record.{record_size, length_field, record_of}
use Rattle.model.specs.translation.PairRecord.{pair_size, state_at, encode_pair}
use Rattle.model.specs.walks.Walk.{Walk, WalkState, wrong_walk}

-- where the current key, the pair and the count stand; the tag stands first
abbrev pub current_at : ℕ
current_at = record_size

abbrev pub pair_place : ℕ
pair_place = current_at + record_size

abbrev pub count_at : ℕ
count_at = pair_place + pair_size

abbrev pub walk_size : ℕ
walk_size = count_at + 1

-- the pair's 133 bytes
abbrev pub pair_part : List ℕ → List ℕ
pair_part b = take pair_size (drop pair_place b)

-- the state that the bytes hold: a length is two bytes, high byte first, with 64 bytes behind it
unfoldable pub walk_at : List ℕ → WalkState
walk_at b =
    record {
      tag_length = length_field b;
      tag_bytes = take max_len (drop 2 b);
      key_length = length_field (drop current_at b);
      current_bytes = take max_len (drop (current_at + 2) b);
      pair_state = state_at (pair_part b);
      count = get_or b count_at 0;
    }

-- a wrong length, or "a pair's flag above 1"
unfoldable pub wrong_record : List ℕ → Bool
wrong_record b = ltb 1 (get_or b pair_place 0) || wrong_walk (walk_at b)

unfoldable pub encode_walk : Walk → List ℕ
encode_walk w =
    record_of (length w.tag) w.tag
    ++ record_of (length w.current) w.current
    ++ encode_pair w.composed ++ (w.count ∷ [])
