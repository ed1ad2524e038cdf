-- A pair as a record of 133 bytes, for the boundary: a flag, two length fields, two arrays of 64 bytes.
use Rattle.std.specs.Prelude.{Bool, true, false, ◌||◌, List, ◌∷◌, ◌++◌, ℕ, ◌+◌, ◌/◌, ◌%◌, eqb, ltb, take, drop, get_or}
use Rattle.std.proofs.Math.Option.{Option}
use Rattle.model.specs.keys.Key.{max_len}
use Rattle.model.specs.records.Record.{length_field}
use Rattle.model.specs.translation.PrefixSet.{PrefixSet}
use Rattle.model.specs.translation.PairState.{PairState, not_pair, pair_of, state_of}

-- the flag and the lengths, and then the arrays
abbrev pub head_size : ℕ
head_size = 5

abbrev pub pair_size : ℕ
pair_size = head_size + max_len + max_len

-- the state that the bytes hold: the flag, then the lengths, high byte first, then the arrays
unfoldable pub state_at : List ℕ → PairState
state_at b =
    record {
      there = eqb (get_or b 0 0) 1;
      old_length = length_field (drop 1 b);
      new_length = length_field (drop 3 b);
      old_bytes = take max_len (drop head_size b);
      new_bytes = take max_len (drop (head_size + max_len) b);
    }

-- "1 where the pair is there, 0 where it is absent; any other value is malformed"
unfoldable pub wrong_pair : List ℕ → Bool
wrong_pair b = ltb 1 (get_or b 0 0) || not_pair (state_at b)

abbrev pub pair_at : List ℕ → Option PrefixSet
pair_at b = pair_of (state_at b)

abbrev pub flag : Bool → ℕ
flag true = 1
flag false = 0

unfoldable pub encode_state : PairState → List ℕ
encode_state s =
    flag s.there ∷
    s.old_length / 256 ∷ s.old_length % 256 ∷
    s.new_length / 256 ∷ s.new_length % 256 ∷ s.old_bytes ++ s.new_bytes

abbrev pub encode_pair : Option PrefixSet → List ℕ
encode_pair o = encode_state (state_of o)
