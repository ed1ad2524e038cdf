-- The records of both bounds, written one after the other.
use mathlib.Core.Path.{◌≡◌, ◌∙◌}
use mathlib.Core.Bool.{Bool, true, false}
use mathlib.Core.List.{List, ◌++◌, append-nil}
use Prim.Native.Nat.{ℕ, ◌+◌, ◌-◌, ◌≤◌}
use native.Mathlib.Omega.{arith}
use borrow.Author.Tests.{leb-true, le-ltb, not-false}
use lib.ListN.{length, take, drop, length-append, length-drop}
use borrow.Rule.Slice.PartMut.{put_mid}
use Rattle.model.specs.keys.Key.{Key, max_len, change_prefix}
use Rattle.model.specs.keys.Order.{key}
use Rattle.model.specs.records.Record.{record_size, key_bytes, element, encode, joined, encode_all}
use Rattle.model.specs.inner.Written.{into}
use Rattle.model.specs.ranges.UpperBound.{ShortestUncommonPrefix}
use Rattle.model.specs.tables.Tables.{short_element}
use Rattle.model.specs.translation.Renaming.{TranslateElement, translate_right, TranslatePivotPairInternal}
use Rattle.model.specs.calls.Refusals.{outcome, over}
use Rattle.model.specs.calls.KeyCalls.{uncommon_prefix_leaves}
use Rattle.model.specs.calls.RenamingCalls.{long_bounds, new_bounds, both_bounds}
use Rattle.model.proofs.Lists.{rest, into_over, written_on, length_over}
use Rattle.model.proofs.keys.Key.{both, length_change, prefix_length}
use Rattle.model.proofs.records.Record.{length_encode}
use Rattle.model.proofs.calls.TableCalls.{not_too_long}
use Rattle.upper_bound.proofs.Raising.{short_upper}
use Rattle.pivot_pair.specs.Range.{has_prefix, Prefixed}
use Rattle.pivot_pair.proofs.Prefixes.{right_begins, right_changed, right_upper}

-- a short changed key has room in a record
changed_room : (p q k : Key) → short_element (key (change_prefix p q k)) ≡ true → length q + (length k - length p) ≤ 64
changed_room p q k h = omega (arith, leb-true (length (change_prefix p q k)) max_len h, length_change p q k)

-- ---- the right bound

module _ (r p q : List ℕ) (t : Bool) (e : t ≡ has_prefix p (element r)) where
  module _ (k : List ℕ) (h : t ≡ true) (f : k ≡ key_bytes r) where
    -- the prefix ends inside it
    pub right_inside : length p ≤ length k
    right_inside = prefix_length p k (right_begins r p t e k h f)

    -- the changed key has room in a record
    pub right_room : short_element (translate_right p q (element r)) ≡ true → length q + (length k - length p) ≤ 64
    right_room s = changed_room p q k (rw (right_changed r p t e q h, ← f) at s)

    -- its record is that of the new bound
    pub right_placed : (d w : List ℕ) → w ≡ into (encode (key (change_prefix p q k))) d → w ≡ into (encode (translate_right p q (element r))) d
    right_placed d w g = rw (right_changed r p t e q h, ← f) g

  -- the record of the upper bound has room, so it is written whole
  pub upper_placed : (d w : List ℕ) → t ≡ false → length q ≤ 64 → record_size ≤ length d → w ≡ uncommon_prefix_leaves q d
      → w ≡ into (encode (translate_right p q (element r))) d
  unfolding outcome
  upper_placed d w h s m g =
      let u = encode (ShortestUncommonPrefix q) in
      let l : length u ≤ length d = rw (length_encode (ShortestUncommonPrefix q) (short_upper q s)) m in
      rw (right_upper r p t e q h, into_over u d l) (g ∙ rw (not_too_long q s, le-ltb (length d) record_size m))

-- ---- both bounds

module _ (l r p q d : List ℕ) (x : Prefixed l r p q) (h : long_bounds (new_bounds l r p q) ≡ false) where
  -- both are short
  shorts : (short_element (key (change_prefix p q l)) ≡ true) × (short_element (translate_right p q (element r)) ≡ true)
  unfolding TranslatePivotPairInternal TranslateElement
  shorts = both (short_element (key (change_prefix p q l))) (short_element (translate_right p q (element r))) (not-false _ h)

  -- the prefix ends inside the left bound
  pub left_inside : length p ≤ length l
  left_inside = prefix_length p l x.begins

  -- the changed left bound has room in a record
  pub left_room : length q + (length l - length p) ≤ 64
  left_room = changed_room p q l shorts.0

  -- the new right bound is short
  pub bound_short : short_element (translate_right p q (element r)) ≡ true
  bound_short = shorts.1

  module _ (m : 132 ≤ length d) (v : List ℕ) (e : v ≡ into (encode (key (change_prefix p q l))) d) where
    -- each record has 66 bytes
    first_size : length (encode (key (change_prefix p q l))) ≡ record_size
    first_size = length_encode (key (change_prefix p q l)) shorts.0

    second_size : length (encode (translate_right p q (element r))) ≡ record_size
    second_size = length_encode (translate_right p q (element r)) shorts.1

    -- the destination keeps its length
    kept_size : length v ≡ length d
    kept_size =
        let z : length (encode (key (change_prefix p q l))) ≤ length d = omega (arith, first_size) in
        rw (e, into_over _ d z) (length_over (encode (key (change_prefix p q l))) d z)

    -- the rest has room for the second record
    pub rest_room : record_size ≤ length (take (length v - 66) (drop 66 v))
    rest_room = rw (rest v 66) (omega (arith, length-drop 66 v, kept_size))

    -- one record, and in the rest the other
    pub both_placed : (w : List ℕ) → w ≡ into (encode (translate_right p q (element r))) (take (length v - 66) (drop 66 v))
        → put_mid 66 (length v - 66) v w ≡ over (encode_all (both_bounds (new_bounds l r p q))) d
    unfolding encode_all joined TranslatePivotPairInternal TranslateElement
    both_placed w g =
        let a = encode (key (change_prefix p q l)) in
        let b = encode (translate_right p q (element r)) in
        rw append-nil
        (written_on 66 a b d v w (omega (arith, first_size)) e g ∙ into_over (a ++ b) d (omega (arith, length-append a b, first_size, second_size)))
