-- A walk's record of 266 bytes: what is written is read back; and read and written back it is the record with zeros past its lengths.
use mathlib.Core.Path.{◌≡◌, refl, ◌∙◌}
use mathlib.Core.Bool.{false, or-false}
use mathlib.Core.List.{List, [], ◌∷◌, ◌++◌, append_assoc}
use Prim.Native.Nat.{ℕ, ◌+◌, ◌*◌, ◌/◌, ◌%◌, ◌≤◌, ◌<◌}
use native.Mathlib.Omega.{arith}
use borrow.Author.Tests.{ltb-false}
use lib.Dec.{ltb}
use lib.ListN.{length, take, drop, get_or, length-append, get_or-append}
use lib.Seq.{take_at, drop_at, get_or_at, drop-drop, get_or-append-add}
use Rattle.model.specs.keys.Key.{Key, Bytes, max_len, too_long}
use Rattle.model.specs.records.Record.{record_size, length_field, padded, record_of}
use Rattle.model.specs.translation.PairRecord.{pair_size, encode_pair}
use Rattle.model.specs.walks.Walk.{Walk, walk_state}
use Rattle.model.specs.walks.WalkRecord.{pair_place, count_at, walk_size, pair_part, walk_at, wrong_record, encode_walk}
use Rattle.model.proofs.records.Record.{length_record}
use Rattle.model.proofs.translation.PairState.{length_padded}
use Rattle.model.proofs.translation.PairRecord.{two_bytes, length_pair, read_pair, flag_low}
use Rattle.model.proofs.walks.Walk.{Short, short_right}

-- ---- a key in 66 bytes, with l behind it

module _ (k : Key) (h : too_long k ≡ false) where
  short : length k ≤ max_len
  short = ltb-false max_len (length k) h

  length_field_lem : length (record_of (length k) k) ≡ record_size
  length_field_lem = length_record (length k) k short

  module _ (l : List ℕ) where
    field_read : length_field (record_of (length k) k ++ l) ≡ length k
    unfolding record_of
    field_read = two_bytes (length k) _

    bytes_read_lem : take max_len (drop 2 (record_of (length k) k ++ l)) ≡ padded k
    unfolding record_of
    bytes_read_lem = take_at (padded k) l max_len (length_padded k short)

    field_passed : drop record_size (record_of (length k) k ++ l) ≡ l
    field_passed = drop_at (record_of (length k) k) l record_size length_field_lem

-- ---- a walk without a length over 64

module _ (w : Walk) (h : Short w) where
  abbrev first : List ℕ
  first = record_of (length w.tag) w.tag

  abbrev second : List ℕ
  second = record_of (length w.current) w.current

  abbrev third : List ℕ
  third = encode_pair w.composed

  abbrev last : List ℕ
  last = w.count ∷ []

  head_length : length (first ++ second) ≡ pair_place
  head_length = rw length-append (omega (arith, length_field_lem w.tag h.tag, length_field_lem w.current h.current))

  third_length : length third ≡ pair_size
  third_length = length_pair w.composed h.composed

  -- the four parts, as they are put together from the left and from the right
  by_count : encode_walk w ≡ ((first ++ second) ++ third) ++ last
  unfolding encode_walk
  by_count = refl

  by_head : encode_walk w ≡ (first ++ second) ++ (third ++ last)
  by_head = by_count ∙ append_assoc (first ++ second) third last

  by_tag : encode_walk w ≡ first ++ (second ++ (third ++ last))
  by_tag = by_head ∙ append_assoc first second (third ++ last)

  before_count : length ((first ++ second) ++ third) ≡ count_at
  before_count = rw (length-append (first ++ second) third) (omega (arith, head_length, third_length))

  -- its record has 266 bytes
  pub length_walk : length (encode_walk w) ≡ walk_size
  length_walk = rw (by_count, length-append ((first ++ second) ++ third) last) (omega (arith, before_count))

  behind_tag : drop record_size (encode_walk w) ≡ second ++ (third ++ last)
  behind_tag = rw by_tag (field_passed w.tag h.tag (second ++ (third ++ last)))

  behind_key : drop pair_place (encode_walk w) ≡ third ++ last
  behind_key = rw by_head (drop_at (first ++ second) (third ++ last) pair_place head_length)

  pair_read : pair_part (encode_walk w) ≡ third
  pair_read = rw behind_key (take_at third last pair_size third_length)

  count_read : get_or (encode_walk w) count_at 0 ≡ w.count
  count_read = rw by_count (get_or_at ((first ++ second) ++ third) w.count [] 0 count_at before_count)

  -- the state is read back
  pub read_walk : walk_at (encode_walk w) ≡ walk_state w
  unfolding walk_at walk_state
  read_walk =
      let a : length_field (encode_walk w) ≡ length w.tag = rw by_tag (field_read w.tag h.tag (second ++ (third ++ last))) in
      let b : take max_len (drop 2 (encode_walk w)) ≡ padded w.tag = rw by_tag (bytes_read_lem w.tag h.tag (second ++ (third ++ last))) in
      let c : length_field (drop record_size (encode_walk w)) ≡ length w.current = rw behind_tag (field_read w.current h.current (third ++ last)) in
      let d : take max_len (drop (record_size + 2) (encode_walk w)) ≡ padded w.current =
      rw (← drop-drop 2 record_size (encode_walk w), behind_tag) (bytes_read_lem w.current h.current (third ++ last)) in
      rw (a, b, c, d, pair_read, read_pair w.composed h.composed, count_read)

  -- the pair's flag is the record's
  flag_read : get_or (encode_walk w) pair_place 0 ≡ get_or third 0 0
  flag_read =
      let n : 0 < length third = omega (arith, third_length) in
      let i : length (first ++ second) + 0 ≡ pair_place = omega (arith, head_length) in
      rw (by_head, ← i, get_or-append-add (first ++ second) (third ++ last) 0 0) (get_or-append third last 0 0 n)

  -- cause 2 doesn't apply to it
  pub right_walk : wrong_record (encode_walk w) ≡ false
  unfolding wrong_record
  right_walk = rw (read_walk, short_right w h, flag_read) (rw (or-false (ltb 1 (get_or third 0 0))) (flag_low w.composed))

-- ---- read and written back

-- two bytes of a length field
field_kept : (b : List ℕ) → Bytes b → 2 ≤ length b → b ≡ length_field b / 256 ∷ length_field b % 256 ∷ drop 2 b
unfolding length_field
field_kept [] c h = absurd (omega arith)
field_kept (x ∷ []) c h = absurd (omega arith)
field_kept (x ∷ y ∷ l) c h =
    let q : (x * 256 + y) / 256 ≡ x = omega (arith, c.1.0) in
    let r : (x * 256 + y) % 256 ≡ y = omega (arith, c.1.0) in
    rw (q, r)
