-- An entry written: the record of its key in two parts, and then its number.
use mathlib.Core.Path.{◌≡◌, sym, ◌∙◌}
use mathlib.Core.Bool.{true}
use mathlib.Core.List.{List, ◌++◌}
use Prim.Native.Nat.{ℕ, ◌+◌, ◌-◌, ◌≤◌}
use native.Mathlib.Omega.{arith}
use borrow.Author.Tests.{leb-true}
use lib.ListN.{length, take, drop, length-append, length-drop}
use borrow.Rule.Slice.PartMut.{put_mid}
use Rattle.model.specs.keys.Key.{max_len, IsPrefix, change_prefix}
use Rattle.model.specs.records.Record.{record_size, record_of}
use Rattle.model.specs.buckets.Bucket.{number_size, entry_size, entry_of, encode_entry, translate_entry}
use Rattle.model.specs.calls.Refusals.{over}
use Rattle.model.specs.calls.BucketCalls.{short_entry}
use Rattle.model.specs.inner.Written.{into}
use Rattle.model.proofs.Lists.{rest, into_over, written_on}
use Rattle.model.proofs.keys.Key.{prefix_length}
use Rattle.model.proofs.records.Record.{length_record}
use Rattle.buckets.specs.Checked.{CheckedEntry}

module _ (e p q d k : List ℕ) (c : CheckedEntry e) (b : IsPrefix p (entry_of e).key ≡ true) (s : short_entry (translate_entry p q (entry_of e)) ≡ true)
    (f : k ≡ (entry_of e).key) where
  -- its key goes on beyond the prefix
  pub beyond : length p ≤ length k
  beyond = rw f (prefix_length p (entry_of e).key b)

  changed : q ++ take (length k - length p) (drop (length p) k) ≡ change_prefix p q (entry_of e).key
  unfolding change_prefix
  changed = rw (rest, f)

  changed_short : length (change_prefix p q (entry_of e).key) ≤ max_len
  changed_short = leb-true (length (change_prefix p q (entry_of e).key)) max_len s

  -- and its changed key has room in a record
  pub changed_room : length q + length (take (length k - length p) (drop (length p) k)) ≤ max_len
  changed_room = rw (← length-append, changed) changed_short

  -- its number is written after its record
  pub entry_written : (v w : List ℕ) → entry_size ≤ length d
      → v ≡ over (record_of (length (q ++ take (length k - length p) (drop (length p) k))) (q ++ take (length k - length p) (drop (length p) k))) d
      → w ≡ into (take (length e - record_size) (drop record_size e)) (take (length v - record_size) (drop record_size v))
      → put_mid record_size (length v - record_size) v w ≡ over (encode_entry (translate_entry p q (entry_of e))) d
  unfolding encode_entry entry_of
  entry_written v w o g j =
      let x = change_prefix p q (entry_of e).key in
      let r = record_of (length x) x in
      let n : length r ≡ record_size = length_record (length x) x changed_short in
      let m : length (drop record_size e) ≡ number_size = omega (arith, length-drop record_size e, c.size) in
      let u : v ≡ into r d = rw changed at g ∙ sym (into_over r d (omega arith)) in
      let y : w ≡ into (drop record_size e) (take (length v - record_size) (drop record_size v)) = rw rest at j in
      written_on record_size r (drop record_size e) d v w (omega arith) u y ∙ into_over (r ++ drop record_size e) d (omega (arith, length-append r (drop record_size e)))
