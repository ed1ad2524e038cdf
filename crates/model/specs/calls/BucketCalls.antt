-- Buckets: when causes 1 and 2 apply to lent entries, and for each call its causes in order, its answer, and what it leaves in its destination.
use Rattle.std.specs.Prelude.{Bool, not, ◌&&◌, ◌||◌, List, [], ◌∷◌, ◌++◌, ℕ, ◌*◌, ◌/◌, ◌%◌, eqb, leb, ltb, length, Result}
use Rattle.model.specs.declared.Refusal.{Refusal}
use Rattle.model.specs.declared.Refusal.TheVariants.{Shape, Malformed, TooLong, NoRoom}
use Rattle.model.specs.keys.Key.{Key, max_len, too_long}
use Rattle.model.specs.records.Record.{reading, key_reading}
use Rattle.model.specs.tables.Tables.{all}
use Rattle.model.specs.buckets.Bucket.{Entry, Bucket, number_size, entry_size_by, entry_size, max_entries, entry_record, entry_bytes_by, entries, encode_bucket, TranslateBucket}
use Rattle.model.specs.calls.Refusals.{Cause, ◌⇒◌, answer, leaves}

-- "A slice isn't whole records, a count is outside its limits": entries, at most 512, whose numbers have n bytes or four
unfoldable pub not_entry_count_by : ℕ → List ℕ → Bool
not_entry_count_by n l = not (eqb (length l % entry_size_by n) 0 && leb (length l / entry_size_by n) max_entries)

abbrev pub not_entry_count : List ℕ → Bool
not_entry_count l = not_entry_count_by number_size l

-- each entry's record reads as a key: both marks are wrong there
unfoldable pub entries_read : List (List ℕ) → Bool
entries_read es = all (λ (e : List ℕ). key_reading (reading (entry_record e))) es

-- causes 1 and 2 of a bucket; whether another argument has cause 2 comes with them
abbrev pub bucket_causes_by : ℕ → Bool → List ℕ → List Cause
bucket_causes_by n wrong l = (not_entry_count_by n l ⇒ Shape) ∷ (wrong || not (entries_read (entry_bytes_by n l)) ⇒ Malformed) ∷ []

unfoldable pub bucket_causes : Bool → List ℕ → List Cause
bucket_causes wrong l = bucket_causes_by number_size wrong l

-- ---- translate_bucket: the bucket l, prefix p changed to q, into d

abbrev pub new_bucket : List ℕ → Key → Key → Bucket
new_bucket l p q = TranslateBucket (entries l) p q

-- an entry whose key has at most 64 bytes
abbrev pub short_entry : Entry → Bool
short_entry e = leb (length e.key) max_len

-- W2: "the destination must hold only the entries kept": the bytes that it needs
unfoldable pub needed_bytes : List ℕ → Key → Key → ℕ
needed_bytes l p q = length (new_bucket l p q) * entry_size

-- causes 8, of the kept entries, and 10, of a destination of n bytes
abbrev pub bucket_long : List ℕ → Key → Key → Bool
bucket_long l p q = not (all short_entry (new_bucket l p q))

abbrev pub bucket_full : List ℕ → Key → Key → ℕ → Bool
bucket_full l p q n = ltb n (needed_bytes l p q)

abbrev pub rename_causes : List ℕ → Key → Key → List Cause
rename_causes l p q = bucket_causes (too_long p || too_long q) l

abbrev pub translate_bucket_causes : List ℕ → Key → Key → List ℕ → List Cause
translate_bucket_causes l p q d =
    rename_causes l p q ++ (bucket_long l p q ⇒ TooLong) ∷ (bucket_full l p q (length d) ⇒ NoRoom) ∷ []

-- "Answer: the count kept"
abbrev pub translate_bucket_answer : List ℕ → Key → Key → List ℕ → Result ℕ Refusal
translate_bucket_answer l p q d = answer (translate_bucket_causes l p q d) (length (new_bucket l p q))

abbrev pub translate_bucket_leaves : List ℕ → Key → Key → List ℕ → List ℕ
translate_bucket_leaves l p q d = leaves (translate_bucket_causes l p q d) (encode_bucket (new_bucket l p q)) d

-- ---- translate_bucket_will_fit: "It refuses 1 and 2, and else says no exactly where the call answers 8 or 10"; n is the destination's length

abbrev pub will_fit_answer : List ℕ → Key → Key → ℕ → Result Bool Refusal
will_fit_answer l p q n = answer (rename_causes l p q) (not (bucket_long l p q || bucket_full l p q n))
