-- A pair's state: read back it is the pair that it was made from.
use mathlib.Core.Path.{◌≡◌, refl}
use mathlib.Core.Option.{Option, none, some}
use native.Mathlib.Omega.{arith}
use Prim.Native.Nat.{◌≤◌}
use lib.ListN.{length, take, length-append, length-replicate}
use lib.Seq.{take-append_seam}
use mathlib.Core.Bool.{false}
use Rattle.model.specs.keys.Key.{Key, max_len}
use Rattle.model.specs.records.Record.{padded}
use Rattle.model.specs.translation.PrefixSet.{PrefixSet, long_pair}
use Rattle.model.specs.translation.PairState.{PairState, not_pair, pair_of, state_with, state_of}

-- the pair that a state is made of is read back from it
pub state_pair : (o : Option PrefixSet) → pair_of (state_of o) ≡ o
unfolding pair_of state_of state_with
state_pair none = refl
state_pair (some a) = rw (take-append_seam a.prefix _, take-append_seam a.new_prefix _)

-- cause 2 applies to the state of a pair where it is too long
pub state_wrong : (o : Option PrefixSet) → not_pair (state_of o) ≡ long_pair o
unfolding not_pair state_of state_with long_pair
state_wrong none = refl
state_wrong (some a) = refl

-- a key of at most 64 bytes fills 64 with the zeros after it
pub length_padded : (k : Key) → length k ≤ max_len → length (padded k) ≡ max_len
length_padded k h = simp (length-append, length-replicate) (omega arith)

-- ---- what is not looked at

module _ (s : PairState) (h : s.there ≡ false) where
  -- an absent pair is right, whatever its lengths
  pub absent_right : not_pair s ≡ false
  unfolding not_pair
  absent_right = rw h

  -- an absent pair stands for none, whatever its bytes
  pub absent_pair : pair_of s ≡ none
  unfolding pair_of
  absent_pair = rw h

-- two states that agree but for bytes past their lengths stand for one pair
pub past_lengths : (s t : PairState) → s.there ≡ t.there → s.old_length ≡ t.old_length → s.new_length ≡ t.new_length
    → take s.old_length s.old_bytes ≡ take s.old_length t.old_bytes → take s.new_length s.new_bytes ≡ take s.new_length t.new_bytes
    → pair_of s ≡ pair_of t
unfolding pair_of
past_lengths s t a b c d e = rw (a, d, e, b, c)
