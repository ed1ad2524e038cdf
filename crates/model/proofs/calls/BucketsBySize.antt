-- A bucket by its bytes, whose numbers have n: one that is checked is the bytes of its entries, and one that is written passes the check.
use mathlib.Core.Path.{◌≡◌, refl, ◌∙◌}
use mathlib.Core.Bool.{Bool, true, false, not}
use mathlib.Core.List.{List, [], map}
use mathlib.Core.Option.{none}
use Prim.Native.Nat.{ℕ, zero, suc, ◌*◌, ◌/◌, ◌%◌, ◌≤◌}
use native.Mathlib.Nat.{div-add-mod', mul-div_cancel, mul-mod_left}
use native.Mathlib.Omega.{arith}
use borrow.Author.Tests.{eqb-true, leb-true, le-leb, not-false}
use lib.Dec.{eqb, leb}
use lib.ListN.{length, take, drop, length-map, length-drop}
use lib.Seq.{take_at, length-take-le}
use Rattle.model.specs.declared.Refusal.TheVariants.{Shape, Malformed}
use Rattle.model.specs.keys.Key.{Bytes}
use Rattle.model.specs.records.Record.{record_size, record_of, reading, key_reading, encode, pieces}
use Rattle.model.specs.tables.Tables.{all}
use Rattle.model.specs.buckets.Bucket.{Entry, Bucket, entry_size_by, max_entries, entry_record, entry_of, entry_bytes_by, entries_by, encode_entry, encode_bucket, sized_by}
use Rattle.model.specs.calls.Refusals.{outcome, first}
use Rattle.model.specs.calls.BucketCalls.{not_entry_count_by, entries_read, bucket_causes_by}
use Rattle.model.proofs.Lists.{all_map}
use Rattle.model.proofs.keys.Key.{both}
use Rattle.model.proofs.records.Record.{length_record, reading_key}
use Rattle.model.proofs.records.Records.{length_pieces, joined_read}
use Rattle.model.proofs.buckets.Entries.{sized_by_lem, length_entry_by, length_bucket_by, encode_entry_by, entry_sized_by}
use Rattle.model.proofs.calls.Refusals.{none_here, none_later}
use Rattle.model.proofs.calls.TableCalls.{either_fails}
use Rattle.model.proofs.calls.WrittenTables.{pieces_written}

-- there are as many entries as their size goes into the bytes
pub count_by : (n : ℕ) (l : List ℕ) → length (entries_by n l) ≡ length l / entry_size_by n
unfolding entry_bytes_by
count_by n l =
    length-map (pieces (entry_size_by n) (length l / entry_size_by n) l) entry_of ∙ length_pieces (entry_size_by n) (length l / entry_size_by n) l

-- entries read from bytes are sized
sized_pieces : (n m : ℕ) (l : List ℕ) → length l ≡ m * entry_size_by n → all (λ (e : List ℕ). key_reading (reading (entry_record e))) (pieces (entry_size_by n) m l) ≡ true
    → all (sized_by n) (map entry_of (pieces (entry_size_by n) m l)) ≡ true
unfolding pieces all
sized_pieces n zero l h e = refl
sized_pieces n (suc m) l h e =
    let s = entry_size_by n in
    let w = both (key_reading (reading (entry_record (take s l)))) (all (λ (x : List ℕ). key_reading (reading (entry_record x))) (pieces s m (drop s l))) e in
    rw (entry_sized_by n (take s l) (length-take-le s l (omega arith)) w.0) (sized_pieces n m (drop s l) (omega (arith, length-drop s l)) w.1)

-- ---- a bucket that has none of the causes 1 and 2

module _ (n : ℕ) (wrong : Bool) (l : List ℕ) (h : first (bucket_causes_by n wrong l) ≡ none) where
  counted : (eqb (length l % entry_size_by n) 0 ≡ true) × (leb (length l / entry_size_by n) max_entries ≡ true)
  unfolding not_entry_count_by
  counted = both (eqb (length l % entry_size_by n) 0) (leb (length l / entry_size_by n) max_entries) (not-false _ (none_here (not_entry_count_by n l) Shape _ h))

  -- its bytes are whole entries
  pub whole_by : length l ≡ (length l / entry_size_by n) * entry_size_by n
  whole_by = omega (arith, eqb-true (length l % entry_size_by n) 0 counted.0, div-add-mod' (length l) (entry_size_by n))

  -- at most 512
  pub most_by : length l / entry_size_by n ≤ max_entries
  most_by = leb-true (length l / entry_size_by n) max_entries counted.1

  wrong_fails : (wrong ≡ false) × (not (entries_read (entry_bytes_by n l)) ≡ false)
  wrong_fails = either_fails wrong (not (entries_read (entry_bytes_by n l))) (none_here _ Malformed [] (none_later (not_entry_count_by n l) Shape _ h))

  -- no other argument has cause 2
  pub wrong_by : wrong ≡ false
  wrong_by = wrong_fails.0

  -- each entry reads as a key with its number
  pub read_by : entries_read (entry_bytes_by n l) ≡ true
  read_by = not-false (entries_read (entry_bytes_by n l)) wrong_fails.1

  -- the entries' bytes are the bucket
  pub encode_by : Bytes l → encode_bucket (entries_by n l) ≡ l
  unfolding encode_bucket entry_bytes_by
  encode_by b =
      joined_read (entry_size_by n) (λ (e : List ℕ). key_reading (reading (entry_record e))) entry_of encode_entry (λ r v s e. encode_entry_by n r s e v)
      (length l / entry_size_by n) l b whole_by (unfold entry_bytes_by entries_read in read_by)

  -- each has a key of at most 64 bytes and a number of n
  pub all_sized_by : all (sized_by n) (entries_by n l) ≡ true
  unfolding entry_bytes_by entries_read
  all_sized_by = sized_pieces n (length l / entry_size_by n) l whole_by read_by

-- ---- what a bucket, written, is

-- the record of an entry that is sized reads as a key
entry_reads : (n : ℕ) (e : Entry) → sized_by n e ≡ true → key_reading (reading (entry_record (encode_entry e))) ≡ true
unfolding encode_entry
entry_reads n e h =
    let s = sized_by_lem n e h in
    let r = record_of (length e.key) e.key in
    rw (take_at r e.number record_size (length_record (length e.key) e.key s.0)) (unfold encode in (rw (reading_key e.key s.0)))

module _ (n : ℕ) (b : Bucket) (h : all (sized_by n) b ≡ true) where
  written_read : entries_read (map encode_entry b) ≡ true
  unfolding entries_read
  written_read = all_map (sized_by n) encode_entry (λ (e : List ℕ). key_reading (reading (entry_record e))) (entry_reads n) b h

  written_pieces : pieces (entry_size_by n) (length b) (encode_bucket b) ≡ map encode_entry b
  unfolding encode_bucket
  written_pieces = pieces_written (entry_size_by n) (sized_by n) encode_entry (length_entry_by n) b h

  -- written entries of at most 512 have none of the causes 1 and 2
  pub written_by : length b ≤ max_entries → first (bucket_causes_by n false (encode_bucket b)) ≡ none
  unfolding not_entry_count_by outcome entry_bytes_by
  written_by m =
      let c : length (encode_bucket b) / entry_size_by n ≡ length b = rw (length_bucket_by n b h) (mul-div_cancel (length b) (omega arith)) in
      let d : length (encode_bucket b) % entry_size_by n ≡ 0 = rw (length_bucket_by n b h) (mul-mod_left (length b) (entry_size_by n)) in
      rw (c, d, le-leb (length b) max_entries m, written_pieces, written_read)
