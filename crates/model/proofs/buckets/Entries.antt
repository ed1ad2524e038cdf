-- Entries and buckets as bytes: what is written reads back.
use mathlib.Core.Path.{◌≡◌, refl}
use mathlib.Core.Bool.{true, ◌&&◌, false≢true}
use mathlib.Core.List.{List, ◌++◌}
use Prim.Native.Nat.{ℕ, ◌*◌, ◌≤◌}
use native.Mathlib.Omega.{arith}
use borrow.Author.Tests.{leb-true, le-leb, eqb-true, eq-eqb}
use lib.Dec.{leb, eqb}
use lib.ListN.{length, drop, length-append, length-take, length-drop, take-append-drop}
use lib.Seq.{take_at, drop_at, length-take-le}
use Rattle.model.specs.declared.Reading.{Reading}
use Rattle.model.specs.declared.Reading.TheVariants as reads
use Rattle.model.specs.keys.Key.{Bytes, max_len}
use Rattle.model.specs.records.Record.{record_size, record_of, reading, key_reading, key_bytes}
use Rattle.model.specs.tables.Tables.{all}
use Rattle.model.specs.buckets.Bucket.{Entry, Bucket, number_size, entry_size_by, entry_size, entry_record, entry_of, encode_entry, entry_bytes_by, entries_by, entries, encode_bucket, sized_by, sized_entry}
use Rattle.model.proofs.keys.Key.{both, bytes_take}
use Rattle.model.proofs.records.Record.{key_read, key_record, length_record, bytes_record}
use Rattle.model.proofs.records.Records.{joined_append, length_joined, read_joined}

-- an entry reads back from its bytes
entry_encode : (e : Entry) → length e.key ≤ max_len → entry_of (encode_entry e) ≡ e
unfolding entry_of encode_entry
entry_encode e h =
    let r = record_of (length e.key) e.key in
    let w = length_record (length e.key) e.key h in
    rw (take_at r e.number record_size w, drop_at r e.number record_size w, bytes_record)

-- the bytes of two buckets, one after the other
pub encode_append : (a b : Bucket) → encode_bucket (a ++ b) ≡ encode_bucket a ++ encode_bucket b
unfolding encode_bucket
encode_append a b = joined_append encode_entry a b

-- ---- entries whose numbers have n bytes

module _ (n : ℕ) where
  module _ (e : Entry) (h : sized_by n e ≡ true) where
    pub sized_by_lem : (length e.key ≤ max_len) × (length e.number ≡ n)
    sized_by_lem =
        let p = both (leb (length e.key) max_len) (eqb (length e.number) n) h in
        (leb-true (length e.key) max_len p.0, eqb-true (length e.number) n p.1)

    pub length_entry_by : length (encode_entry e) ≡ entry_size_by n
    unfolding encode_entry
    length_entry_by = rw (length-append, length_record (length e.key) e.key sized_by_lem.0, sized_by_lem.1)

    read_entry : entry_of (encode_entry e) ≡ e
    read_entry = entry_encode e sized_by_lem.0

  -- they have the bytes of an entry each
  pub length_bucket_by : (b : Bucket) → all (sized_by n) b ≡ true → length (encode_bucket b) ≡ length b * entry_size_by n
  unfolding encode_bucket
  length_bucket_by = length_joined (entry_size_by n) (sized_by n) encode_entry length_entry_by

  -- they read back from their bytes
  pub entries_encode_by : (b : Bucket) → all (sized_by n) b ≡ true → entries_by n (encode_bucket b) ≡ b
  unfolding entry_bytes_by encode_bucket
  entries_encode_by = read_joined (entry_size_by n) (sized_by n) encode_entry length_entry_by entry_of read_entry (omega arith)

  module _ (r : List ℕ) (h : length r ≡ entry_size_by n) (e : key_reading (reading (entry_record r)) ≡ true) where
    -- bytes of an entry whose record reads as a key are the entry's
    pub encode_entry_by : Bytes r → encode_entry (entry_of r) ≡ r
    unfolding encode_entry entry_of
    encode_entry_by b = go (reading (entry_record r)) refl e
      where
        go : (w : Reading) → reading (entry_record r) ≡ w → key_reading w ≡ true
            → record_of (length (key_bytes (entry_record r))) (key_bytes (entry_record r)) ++ drop record_size r ≡ r
        go (reads.Key m) f g =
            rw (key_record (entry_record r) (bytes_take record_size r b) (length-take-le record_size r (omega arith)) m (key_read (entry_record r) m f))
            (take-append-drop record_size r)
        go reads.Malformed f g = absurd (false≢true g)
        go reads.NoEdge f g = absurd (false≢true g)
        go reads.Max f g = absurd (false≢true g)

    -- an entry that is read so has a key of at most 64 bytes and a number of n
    pub entry_sized_by : sized_by n (entry_of r) ≡ true
    unfolding entry_of
    entry_sized_by = go (reading (entry_record r)) refl e
      where
        go : (w : Reading) → reading (entry_record r) ≡ w → key_reading w ≡ true
            → (leb (length (key_bytes (entry_record r))) max_len && eqb (length (drop record_size r)) n) ≡ true
        go (reads.Key m) f g =
            let k = key_read (entry_record r) m f in
            let l : length (key_bytes (entry_record r)) ≤ max_len = unfold key_bytes in rw length-take (omega (arith, k.field, k.short)) in
            let d : length (drop record_size r) ≡ n = omega (arith, length-drop record_size r) in
            rw (le-leb (length (key_bytes (entry_record r))) max_len l) (eq-eqb (length (drop record_size r)) n d)
        go reads.Malformed f g = absurd (false≢true g)
        go reads.NoEdge f g = absurd (false≢true g)
        go reads.Max f g = absurd (false≢true g)

-- ---- a bucket's, whose numbers have four

pub sized : (e : Entry) → sized_entry e ≡ true → (length e.key ≤ max_len) × (length e.number ≡ number_size)
sized = sized_by_lem number_size

pub length_entry : (e : Entry) → sized_entry e ≡ true → length (encode_entry e) ≡ entry_size
length_entry = length_entry_by number_size

pub length-encode_bucket : (b : Bucket) → all sized_entry b ≡ true → length (encode_bucket b) ≡ length b * entry_size
length-encode_bucket = length_bucket_by number_size

pub entries-encode_bucket : (b : Bucket) → all sized_entry b ≡ true → entries (encode_bucket b) ≡ b
unfolding entries
entries-encode_bucket = entries_encode_by number_size

pub encode_entry_lem : (r : List ℕ) → Bytes r → length r ≡ entry_size → key_reading (reading (entry_record r)) ≡ true → encode_entry (entry_of r) ≡ r
encode_entry_lem r b h e = encode_entry_by number_size r h e b

pub entry_sized : (r : List ℕ) → length r ≡ entry_size → key_reading (reading (entry_record r)) ≡ true → sized_entry (entry_of r) ≡ true
entry_sized = entry_sized_by number_size
