-- The new pivots of a table that has none of the causes 1 to 3, 7 and 8, by their records: each key made at its place, all written in turn, and the end after them.
use mathlib.Core.Path.{◌≡◌, ◌∙◌}
use mathlib.Core.Bool.{Bool, true}
use mathlib.Core.List.{List, [], ◌++◌}
use Prim.Native.Nat.{ℕ, ◌+◌, ◌*◌, ◌-◌, ◌/◌, ◌≤◌, ◌<◌}
use native.Mathlib.Omega.{arith}
use borrow.Author.Tests.{leb-true, not-false}
use borrow.Rule.Slice.PartMut.{put_mid}
use lib.ListN.{length, take, drop, get_or, length-map, length-drop}
use Rattle.model.specs.declared.Refusal.TheVariants.{NotPrefix, TooLong}
use Rattle.model.specs.keys.Key.{change_prefix}
use Rattle.model.specs.keys.Order.{key, max, lt}
use Rattle.model.specs.records.Record.{record_size, key_bytes, element, elements, record_of, encode, encode_all}
use Rattle.model.specs.inner.Places.{record_at}
use Rattle.model.specs.tables.Tables.{pivot_at, all, short_element}
use Rattle.model.specs.translation.Renaming.{TranslateElement}
use Rattle.model.specs.calls.Refusals.{over}
use Rattle.model.specs.calls.RenamingCalls.{but_last, begun, last_translated}
use Rattle.model.proofs.Lists.{rest, get_d_map}
use Rattle.model.proofs.keys.Key.{prefix_length, length_change}
use Rattle.model.proofs.records.Record.{length_encode, element_encode}
use Rattle.model.proofs.records.InTurn.{turn_start, turn_next, turn_end}
use Rattle.model.proofs.tables.Routing.{wf_count}
use Rattle.model.proofs.calls.Refusals.{none_here, none_later}
use Rattle.model.proofs.Lists.{over_all, all_inside}
use Rattle.model.proofs.calls.TableCalls.{length_elements}
use Rattle.model.proofs.calls.PivotKeys.{key_at}
use Rattle.changed_pivots.specs.Renamed.{changed_pivots}
use Rattle.changed_pivots.proofs.KeyPass.{but_count, but_at}
use Rattle.renaming.specs.Change.{Changeable}

module _ (v p q : List ℕ) (c : Changeable v p q) where
  -- each pivot but the last begins with the prefix
  all_begin : all (begun p) (but_last (elements v)) ≡ true
  all_begin = not-false _ (none_here _ NotPrefix _ c.none_applies)

  -- none is too long
  pub changed_short : all short_element (changed_pivots v p q) ≡ true
  changed_short = not-false _ (none_here _ TooLong [] (none_later _ NotPrefix _ c.none_applies))

  -- there are two pivots or more
  pub two_pivots_lem : 2 ≤ length v / 66
  two_pivots_lem = omega (arith, wf_count (elements v) c.wf, length_elements v)

  -- so there is one before the last
  pub one_pivot : 1 ≤ length v / 66
  one_pivot = omega (arith, two_pivots_lem)

  -- there is one fewer than pivots
  pub changed_count : length (changed_pivots v p q) ≡ length v / 66 - 1
  changed_count = length-map (but_last (elements v)) (TranslateElement p q) ∙ but_count v c.wf

  -- ---- one record

  module _ (i : ℕ) (m : i + 1 < length v / 66) where
    -- at each place stands the pivot there, changed
    changed_at : get_or (changed_pivots v p q) i max ≡ TranslateElement p q (pivot_at (elements v) i)
    changed_at =
        get_d_map (TranslateElement p q) (but_last (elements v)) i max max (omega (arith, but_count v c.wf))
        ∙ rw (but_at v c.wf i m, key_at v c.wf i m)

    -- it is not too long
    short_here : short_element (TranslateElement p q (pivot_at (elements v) i)) ≡ true
    short_here = rw (← changed_at) (all_inside short_element (changed_pivots v p q) i max (omega (arith, changed_count)) changed_short)

    module _ (a k : List ℕ) (f : a ≡ record_at v i) (g : k ≡ key_bytes a) where
      -- it is the changed key of the record there
      changed_is : TranslateElement p q (pivot_at (elements v) i) ≡ key (change_prefix p q k)
      unfolding TranslateElement
      changed_is = rw (key_at v c.wf i m, g, f)

      -- the old prefix is no longer than the key
      pub key_begun : length p ≤ length k
      key_begun =
          let b = all_inside (begun p) (but_last (elements v)) i max (omega (arith, but_count v c.wf)) all_begin in
          prefix_length p k (rw (g, f) (rw (but_at v c.wf i m) at b))

      -- the changed key has at most 64 bytes
      changed_room : length q + (length k - length p) ≤ 64
      changed_room = rw (← length_change p q k) (leb-true (length (change_prefix p q k)) 64 (rw changed_is at short_here))

      -- the new prefix, with what the key has beyond the old one, has at most 64 bytes
      pub key_room : length q + length (take (length k - length p) (drop (length p) k)) ≤ 64
      key_room = rw (rest k (length p), length-drop (length p) k) changed_room

      -- the record of the new prefix and that rest is that of the changed pivot
      pub key_made : (d w : List ℕ)
          → w ≡ over (record_of (length (q ++ take (length k - length p) (drop (length p) k))) (q ++ take (length k - length p) (drop (length p) k))) d
          → w ≡ over (encode (TranslateElement p q (pivot_at (elements v) i))) d
      unfolding encode change_prefix
      key_made d w e = e ∙ rw (changed_is, rest k (length p))

  -- ---- all records but the end's

  -- at first nothing is written
  pub changed_start : (d : List ℕ) → d ≡ over (encode_all (take 0 (changed_pivots v p q))) d
  unfolding encode_all
  changed_start d = turn_start encode (changed_pivots v p q) d

  -- one pivot more
  pub changed_next : (i : ℕ) (d u w : List ℕ) → i < length v / 66 - 1 → u ≡ over (encode_all (take i (changed_pivots v p q))) d
      → w ≡ over (encode (TranslateElement p q (pivot_at (elements v) i))) (take (length u - i * 66) (drop (i * 66) u))
      → put_mid (i * 66) (length u - i * 66) u w ≡ over (encode_all (take (i + 1) (changed_pivots v p q))) d
  unfolding encode_all
  changed_next i d u w l f g =
      turn_next encode (changed_pivots v p q) record_size short_element length_encode changed_short i (omega (arith, changed_count)) max d u w f
      (g ∙ rw (changed_at i (omega arith)))

  -- after the last of them everything is
  pub changed_end : (i : ℕ) (d u : List ℕ) → length v / 66 - 1 ≤ i → u ≡ over (encode_all (take i (changed_pivots v p q))) d
      → u ≡ over (encode_all (changed_pivots v p q)) d
  unfolding encode_all
  changed_end i d u l f = turn_end encode (changed_pivots v p q) i d u (omega (arith, changed_count)) f

  -- ---- the last key

  -- the pivot before the last is not the last
  pub last_slot : length v / 66 - 2 + 1 < length v / 66
  last_slot = omega (arith, two_pivots_lem)

  -- its record, alone in an array, is compared with the end's
  pub last_below : (r n d : List ℕ) (t : Bool) → r ≡ over (encode (TranslateElement p q (pivot_at (elements v) (length v / 66 - 2)))) d → length d ≡ 66
      → t ≡ lt (element r) (element n) → t ≡ lt (last_translated v p q) (element n)
  last_below r n d t e m f =
      let x = TranslateElement p q (pivot_at (elements v) (length v / 66 - 2)) in
      let s = short_here (length v / 66 - 2) last_slot in
      let i : length (elements v) - 1 - 1 ≡ length v / 66 - 2 = omega (arith, length_elements v) in
      let o : over (encode x) d ≡ encode x = over_all (encode x) d (omega (arith, length_encode x s)) in
      f ∙ rw (e, o, element_encode x s, i)
