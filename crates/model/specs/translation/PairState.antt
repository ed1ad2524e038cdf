-- A pair by value: "a state by value with a flag, two lengths and two arrays of 64 bytes".
use Rattle.std.specs.Prelude.{Bool, true, false, cond, ◌&&◌, ◌||◌, List, [], ℕ, ltb, length, take}
use Rattle.std.proofs.Math.Option.{Option, none, some}
use Rattle.model.specs.keys.Key.{Key, max_len}
use Rattle.model.specs.records.Record.{padded}
use Rattle.model.specs.translation.PrefixSet.{PrefixSet, pair}

pub record PairState : Type 0 where
  pub there : Bool
  pub old_length : ℕ
  pub new_length : ℕ
  pub old_bytes : List ℕ
  pub new_bytes : List ℕ

-- "A length over 64 in it is 2"; of an absent pair nothing is looked at
unfoldable pub not_pair : PairState → Bool
not_pair s = s.there && (ltb max_len s.old_length || ltb max_len s.new_length)

-- what an argument's state stands for: "bytes past a length, or all of an absent pair, are not looked at"
unfoldable pub pair_of : PairState → Option PrefixSet
pair_of s = cond s.there (pair (take s.old_length s.old_bytes) (take s.new_length s.new_bytes)) none

-- two keys in their arrays: "in a result they are zero"
unfoldable pub state_with : Bool → Key → Key → PairState
state_with t p q =
    record { there = t; old_length = length p; new_length = length q; old_bytes = padded p; new_bytes = padded q }

-- the one state that a result has: "lengths of an absent pair too"
unfoldable pub state_of : Option PrefixSet → PairState
state_of none = state_with false [] []
state_of (some a) = state_with true a.prefix a.new_prefix
