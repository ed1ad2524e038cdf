-- A pair's record of 133 bytes: what is written is read back.
use mathlib.Core.Path.{◌≡◌, refl}
use mathlib.Core.Bool.{Bool, true, false}
use mathlib.Core.List.{List, [], ◌∷◌}
use mathlib.Core.Option.{Option, none, some}
use Prim.Native.Nat.{ℕ, ◌/◌, ◌%◌, ◌≤◌, ◌<◌}
use native.Mathlib.Omega.{arith}
use borrow.Author.Tests.{ltb-false, lt-ltb}
use lib.Dec.{eqb, ltb}
use lib.ListN.{length, take, drop, get_or, length-append}
use lib.Seq.{take_at, drop_at, take_all}
use Rattle.model.specs.keys.Key.{Key, max_len, too_long}
use Rattle.model.specs.records.Record.{length_field, padded}
use Rattle.model.specs.translation.PrefixSet.{PrefixSet, pair, long_pair}
use Rattle.model.specs.translation.PairState.{not_pair, state_with, state_of}
use Rattle.model.specs.translation.PairRecord.{pair_size, state_at, wrong_pair, flag, encode_state, encode_pair}
use Rattle.model.proofs.calls.Refusals.{or_left}
use Rattle.model.proofs.calls.TableCalls.{either_fails}
use Rattle.model.proofs.translation.PairState.{length_padded, state_wrong}

-- a number in two bytes, high byte first
pub two_bytes : (n : ℕ) (l : List ℕ) → length_field (n / 256 ∷ n % 256 ∷ l) ≡ n
unfolding length_field
two_bytes n l = omega arith

-- the flag is read back
flag_read : (t : Bool) → eqb (flag t) 1 ≡ t
flag_read true = refl
flag_read false = refl

module _ (t : Bool) (p q : Key) (h : length p ≤ max_len) (j : length q ≤ max_len) where
  -- two keys of at most 64 bytes take 133
  length_with : length (encode_state (state_with t p q)) ≡ pair_size
  unfolding encode_state state_with
  length_with = omega (arith, length-append (padded p) (padded q), length_padded p h, length_padded q j)

  -- and their state is read back
  read_with : state_at (encode_state (state_with t p q)) ≡ state_with t p q
  unfolding state_at encode_state state_with
  read_with =
      let m : length (padded p) ≡ 64 = length_padded p h in
      let n : length (padded q) ≤ 64 = omega (arith, length_padded q j) in
      rw (
        flag_read t,
        two_bytes (length p) _,
        two_bytes (length q) _,
        take_at (padded p) (padded q) 64 m,
        drop_at (padded p) (padded q) 64 m,
        take_all 64 (padded q) n,
      )

-- of a pair that isn't too long the record has 133 bytes
pub length_pair : (o : Option PrefixSet) → long_pair o ≡ false → length (encode_pair o) ≡ pair_size
unfolding state_of long_pair
length_pair none h = length_with false [] [] (omega arith) (omega arith)
length_pair (some a) h =
    let n = either_fails (too_long a.prefix) (too_long a.new_prefix) h in
    length_with true a.prefix a.new_prefix (ltb-false max_len (length a.prefix) n.0) (ltb-false max_len (length a.new_prefix) n.1)

-- its state is read back
pub read_pair : (o : Option PrefixSet) → long_pair o ≡ false → state_at (encode_pair o) ≡ state_of o
unfolding state_of long_pair
read_pair none h = read_with false [] [] (omega arith) (omega arith)
read_pair (some a) h =
    let n = either_fails (too_long a.prefix) (too_long a.new_prefix) h in
    read_with true a.prefix a.new_prefix (ltb-false max_len (length a.prefix) n.0) (ltb-false max_len (length a.new_prefix) n.1)

-- the flag written is 0 or 1
pub flag_low : (o : Option PrefixSet) → ltb 1 (get_or (encode_pair o) 0 0) ≡ false
unfolding encode_state state_of state_with
flag_low none = refl
flag_low (some a) = refl

-- any other flag is malformed
pub other_flag : (x : ℕ) (l : List ℕ) → 1 < x → wrong_pair (x ∷ l) ≡ true
unfolding wrong_pair
other_flag x l h = or_left (ltb 1 x) (not_pair (state_at (x ∷ l))) (lt-ltb 1 x h)

-- to the record of a pair that isn't long cause 2 does not apply
pub right_pair : (o : Option PrefixSet) → long_pair o ≡ false → wrong_pair (encode_pair o) ≡ false
unfolding wrong_pair
right_pair o h = rw (flag_low o, read_pair o h, state_wrong o) h

-- the record of the pair from 41 to 50 30: the flag, the lengths, and where the prefixes begin
pub record_of_pair : (take 6 (encode_pair (pair (0x41 ∷ []) (0x50 ∷ 0x30 ∷ []))) ≡ 1 ∷ 0 ∷ 1 ∷ 0 ∷ 2 ∷ 0x41 ∷ [])
    × (take 3 (drop 69 (encode_pair (pair (0x41 ∷ []) (0x50 ∷ 0x30 ∷ [])))) ≡ 0x50 ∷ 0x30 ∷ 0 ∷ [])
unfolding encode_state state_of state_with
record_of_pair = (refl, refl)
