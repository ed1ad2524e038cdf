-- Buckets: entries of a key record and a number, and their translation (TranslateBucket, WFTBucket of TranslationLib).
use Rattle.std.specs.Prelude.{◌≡◌, Bool, true, false, cond, ◌&&◌, List, [], ◌∷◌, ◌++◌, map, ℕ, suc, ◌+◌, ◌/◌, ◌≤◌, ◌<◌, eqb, leb, length, take, drop, get_or}
use Rattle.model.specs.keys.Key.{Key, max_len, IsPrefix, change_prefix}
use Rattle.model.specs.keys.Order.{Element}
use Rattle.model.specs.records.Record.{record_size, key_bytes, record_of, pieces, joined}
use Rattle.model.specs.tables.Tables.{IsStrictlySorted}

-- "a key record and a four-byte number"; "a lent slice of 0 to 512 entries"
abbrev pub number_size : ℕ
number_size = 4

-- an entry whose number has n bytes
abbrev pub entry_size_by : ℕ → ℕ
entry_size_by n = record_size + n

abbrev pub entry_size : ℕ
entry_size = entry_size_by number_size

abbrev pub max_entries : ℕ
max_entries = 512

-- an entry: its key, and its number's bytes, high byte first
pub record Entry : Type 0 where
  pub key : Key
  pub number : List ℕ

abbrev pub Bucket : Type 0
Bucket = List Entry

-- a key of at most 64 bytes, and a number of n or of four
abbrev pub sized_by : ℕ → Entry → Bool
sized_by n e = leb (length e.key) max_len && eqb (length e.number) n

abbrev pub sized_entry : Entry → Bool
sized_entry e = sized_by number_size e

-- ---- as bytes

-- the record at the head of an entry
abbrev pub entry_record : List ℕ → List ℕ
entry_record b = take record_size b

unfoldable pub entry_of : List ℕ → Entry
entry_of b = record { key = key_bytes (entry_record b); number = drop record_size b }

unfoldable pub encode_entry : Entry → List ℕ
encode_entry e = record_of (length e.key) e.key ++ e.number

-- the bytes of each entry, where a number has n or four
unfoldable pub entry_bytes_by : ℕ → List ℕ → List (List ℕ)
entry_bytes_by n l = pieces (entry_size_by n) (length l / entry_size_by n) l

abbrev pub entry_bytes : List ℕ → List (List ℕ)
entry_bytes l = entry_bytes_by number_size l

abbrev pub entries_by : ℕ → List ℕ → Bucket
entries_by n l = map entry_of (entry_bytes_by n l)

unfoldable pub entries : List ℕ → Bucket
entries l = entries_by number_size l

unfoldable pub encode_bucket : Bucket → List ℕ
encode_bucket b = joined (map encode_entry b)

-- ---- TranslateBucket

abbrev pub translate_entry : Key → Key → Entry → Entry
translate_entry p q e = record { key = change_prefix p q e.key; number = e.number }

-- "Entries whose key begins with the prefix are kept in order, key changed, number the same"
unfoldable pub TranslateBucket : Bucket → Key → Key → Bucket
TranslateBucket [] p q = []
TranslateBucket (e ∷ b) p q =
    cond (IsPrefix p e.key) (translate_entry p q e ∷ TranslateBucket b p q) (TranslateBucket b p q)

-- TranslateBuckets: each bucket, translated
unfoldable pub TranslateBuckets : List Bucket → Key → Key → List Bucket
TranslateBuckets blist p q = map (λ (b : Bucket). TranslateBucket b p q) blist

-- WFBucket's order: "Strictly rising entries"
unfoldable pub entries_rise : Bucket → Bool
entries_rise b = IsStrictlySorted (map (λ (e : Entry). Element.key e.key) b)

-- the places, from i on, of the entries that are kept
unfoldable pub kept_from : ℕ → Bucket → Key → List ℕ
kept_from i [] p = []
kept_from i (e ∷ b) p = cond (IsPrefix p e.key) (i ∷ kept_from (suc i) b p) (kept_from (suc i) b p)

-- the ghost idxs of TranslateBucketInternal(bucket, prefix, newPrefix, 0)
unfoldable pub kept_places : Bucket → Key → List ℕ
kept_places b p = kept_from 0 b p

-- WFTBucket(bucket, tbucket, prefix, tPrefix, idx), t and idxs being tbucket's: each entry of t comes from the place that idxs gives, in order, and no other entry from idx on has the prefix
pub record WFTBucket (b t : Bucket) (idxs : List ℕ) (p q : Key) (idx : ℕ) : Type 0 where
  pub count : length t ≡ length idxs
  pub at_most : length t ≤ length (drop idx b)
  pub inside : (i : ℕ) → i < length t → (idx ≤ get_or idxs i 0) × (get_or idxs i 0 < length b)
  pub rising : (i j : ℕ) → i < j → j < length idxs → get_or idxs i 0 < get_or idxs j 0
  pub begins : (i : ℕ) (e : Entry) → i < length t → IsPrefix p (get_or b (get_or idxs i 0) e).key ≡ true
  pub translated : (i : ℕ) (e : Entry) → i < length t → get_or t i e ≡ translate_entry p q (get_or b (get_or idxs i 0) e)
  pub others : (j : ℕ) (e : Entry) → idx ≤ j → j < length b → ((i : ℕ) → i < length idxs → get_or idxs i 0 ≡ j → ⊥) → IsPrefix p (get_or b j e).key ≡ false
