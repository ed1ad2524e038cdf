-- The record at the head of an entry, in a bucket that is read.
use mathlib.Core.Path.{◌≡◌, refl, sym, ap, ◌∙◌}
use mathlib.Core.Bool.{true, false≢true}
use mathlib.Core.List.{List, []}
use Prim.Native.Nat.{ℕ, ◌+◌, ◌*◌, ◌-◌, ◌/◌, ◌≤◌, ◌<◌}
use native.Mathlib.Nat.{add-sub_cancel_left}
use native.Mathlib.Omega.{arith}
use borrow.Author.Tests.{ne_eqb}
use lib.ListN.{length, take, drop, get_or}
use lib.Seq.{take-take, length-take-le}
use Rattle.std.specs.Ordering.{is_lt}
use Rattle.std.specs.declared.cmp.Ordering.{Ordering}
use Rattle.model.specs.declared.Reading.{Reading}
use Rattle.model.specs.declared.Reading.TheVariants as reads
use Rattle.model.specs.keys.Order.{key, lt, sign}
use Rattle.model.specs.records.Record.{record_size, max_mark, length_field, reading, key_reading, element_reading, element, key_bytes}
use Rattle.model.specs.inner.Places.{entry_at}
use Rattle.model.specs.buckets.Bucket.{Entry, entry_size, entry_record, entry_of, entry_bytes, entry_bytes_by, entries}
use Rattle.model.specs.calls.BucketCalls.{entries_read}
use Rattle.model.proofs.Lists.{get_d_map, all_inside}
use Rattle.model.proofs.records.Record.{key_read}
use Rattle.model.proofs.records.Records.{piece_at}
use Rattle.keys.specs.Padded.{Padded, padded_order}
use Rattle.keys.proofs.Padded.{padded_below}
use Rattle.entries.proofs.Places.{past_entries, length-entry_bytes, entry_size_lem}

-- what is asked for past the last entry
abbrev pub none_such : Entry
none_such = record { key = []; number = [] }

-- past the last entry there is no record
pub past_records : (l : List ℕ) (i : ℕ) → length l / entry_size ≤ i → [] ≡ entry_record (entry_at l i)
past_records l i h = rw (← past_entries l i h)

-- inside the bucket it is the part at its place
pub record_part : (l : List ℕ) (i : ℕ) → i < length l / entry_size → take (i * entry_size + record_size - i * entry_size) (drop (i * entry_size) l) ≡ entry_record (entry_at l i)
unfolding entry_bytes_by
record_part l i h = rw (add-sub_cancel_left, piece_at entry_size (length l / entry_size) i l h) (sym (take-take record_size entry_size (drop (i * entry_size) l) (omega arith)))

-- what is read as a key is read as an element, and its record stands for that key
as_element : (r : List ℕ) → key_reading (reading r) ≡ true → (element_reading (reading r) ≡ true) × (element r ≡ key (key_bytes r))
as_element r h = go (reading r) refl h
  where
    go : (w : Reading) → reading r ≡ w → key_reading w ≡ true → (element_reading (reading r) ≡ true) × (element r ≡ key (key_bytes r))
    go (reads.Key n) f g =
        let k = key_read r n f in
        (rw f, unfold element in (rw (ne_eqb (length_field r) max_mark (λ e. omega (arith, k.field, k.short)))))
    go reads.Malformed f g = absurd (false≢true g)
    go reads.NoEdge f g = absurd (false≢true g)
    go reads.Max f g = absurd (false≢true g)

module _ (l : List ℕ) (w : entries_read (entry_bytes l) ≡ true) (i : ℕ) (h : i < length l / entry_size) where
  read_here : key_reading (reading (entry_record (entry_at l i))) ≡ true
  unfolding entries_read
  read_here = all_inside (λ (e : List ℕ). key_reading (reading (entry_record e))) (entry_bytes l) i [] (omega (arith, length-entry_bytes l)) w

  -- the record can be compared by words
  pub padded_here : (r : List ℕ) → r ≡ entry_record (entry_at l i) → Padded r
  padded_here r g =
      (rw g (length-take-le record_size (entry_at l i) (omega (arith, entry_size_lem l i h))), rw g (as_element (entry_record (entry_at l i)) read_here).0)

  -- it stands for the entry's key
  pub key_here : (d : Entry) → element (entry_record (entry_at l i)) ≡ key (get_or (entries l) i d).key
  unfolding entries entry_of
  key_here d =
      let e : get_or (entries l) i d ≡ entry_of (entry_at l i) = get_d_map entry_of (entry_bytes l) i d [] (omega (arith, length-entry_bytes l)) in
      (as_element (entry_record (entry_at l i)) read_here).1 ∙ ap (λ (x : Entry). key x.key) (sym e)

-- two records are told apart by what stands at their places
module _ (l : List ℕ) (w : entries_read (entry_bytes l) ≡ true) (a b : List ℕ) (i : ℕ) (f : a ≡ entry_record (entry_at l i)) (o : Ordering) (e : sign o ≡ padded_order a b) where
  pub below_told : i < length l / entry_size → Padded b → is_lt o ≡ lt (element (entry_record (entry_at l i))) (element b)
  below_told h p = rw (← f) (padded_below a b (padded_here l w i h a f) p o e)

  pub next_told : i + 1 < length l / entry_size → b ≡ entry_record (entry_at l (i + 1))
      → is_lt o ≡ lt (element (entry_record (entry_at l i))) (element (entry_record (entry_at l (i + 1))))
  next_told h g = rw (← g) (below_told (omega arith) (padded_here l w (i + 1) h b g))
