-- The calls on keys: for each its causes in order, its answer, and what it leaves in a destination. The arguments are the bytes lent.
use Rattle.std.specs.Prelude.{ℤ, Bool, not, ◌||◌, List, [], ◌∷◌, ℕ, eqb, ltb, length, Result}
use Rattle.model.specs.declared.Refusal.{Refusal}
use Rattle.model.specs.declared.Refusal.TheVariants.{Shape, Malformed, NotPrefix, TooLong, NoRoom}
use Rattle.model.specs.keys.Key.{Key, too_long, IsPrefix, change_prefix}
use Rattle.model.specs.keys.Order.{key, cmp}
use Rattle.model.specs.records.Record.{record_size, reading, key_reading, element_reading, key_bytes, element, encode}
use Rattle.model.specs.ranges.RangePrefix.{PivotLcp}
use Rattle.model.specs.ranges.UpperBound.{ShortestUncommonPrefix}
use Rattle.model.specs.buckets.Bucket.{entry_size, entry_record}
use Rattle.model.specs.calls.Refusals.{Cause, ◌⇒◌, answer, leaves, part}

-- "an element isn't one record"
abbrev pub not_record : List ℕ → Bool
not_record r = not (eqb (length r) record_size)

-- "A malformed record, a wrong mark": where an element must stand, and where a key must
abbrev pub not_element : List ℕ → Bool
not_element r = not (element_reading (reading r))

abbrev pub not_key : List ℕ → Bool
not_key r = not (key_reading (reading r))

-- "it is shorter than what is written"
abbrev pub no_room : ℕ → List ℕ → Bool
no_room n d = ltb (length d) n

-- compare(a, b)
abbrev pub compare_causes : List ℕ → List ℕ → List Cause
compare_causes a b =
    (not_record a || not_record b ⇒ Shape) ∷
    (not_element a || not_element b ⇒ Malformed) ∷ []

abbrev pub compare_answer : List ℕ → List ℕ → Result ℤ Refusal
compare_answer a b = answer (compare_causes a b) (cmp (element a) (element b))

-- the key of a pivot record: its length, and the part beside it
abbrev pub pivot_key_causes : List ℕ → List Cause
pivot_key_causes r = (not_record r ⇒ Shape) ∷ (not_key r ⇒ Malformed) ∷ []

abbrev pub pivot_key_answer : List ℕ → Result ℕ Refusal
pivot_key_answer r = answer (pivot_key_causes r) (length (key_bytes r))

abbrev pub pivot_key_part : List ℕ → List ℕ
pivot_key_part r = part (pivot_key_causes r) (key_bytes r)

-- the key of an entry: its length, and the part beside it
abbrev pub entry_key_causes : List ℕ → List Cause
entry_key_causes e = (not (eqb (length e) entry_size) ⇒ Shape) ∷ (not_key (entry_record e) ⇒ Malformed) ∷ []

abbrev pub entry_key_answer : List ℕ → Result ℕ Refusal
entry_key_answer e = answer (entry_key_causes e) (length (key_bytes (entry_record e)))

abbrev pub entry_key_part : List ℕ → List ℕ
entry_key_part e = part (entry_key_causes e) (key_bytes (entry_record e))

-- a produced key x, into d: "A produced key passes 64 bytes", "A destination is too short"
abbrev pub size_causes : Key → List ℕ → List Cause
size_causes x d = (too_long x ⇒ TooLong) ∷ (no_room (length x) d ⇒ NoRoom) ∷ []

-- changing the prefix p to q in k, into d
abbrev pub change_prefix_causes : Key → Key → Key → List ℕ → List Cause
change_prefix_causes k p q d =
    (too_long k || too_long p || too_long q ⇒ Malformed) ∷
    (not (IsPrefix p k) ⇒ NotPrefix) ∷ size_causes (change_prefix p q k) d

abbrev pub change_prefix_answer : Key → Key → Key → List ℕ → Result ℕ Refusal
change_prefix_answer k p q d = answer (change_prefix_causes k p q d) (length (change_prefix p q k))

abbrev pub change_prefix_leaves : Key → Key → Key → List ℕ → List ℕ
change_prefix_leaves k p q d = leaves (change_prefix_causes k p q d) (change_prefix p q k) d

-- PivotLcp(left, right): a key and an element
abbrev pub pivot_lcp_causes : Key → List ℕ → List Cause
pivot_lcp_causes l r = (not_record r ⇒ Shape) ∷ (too_long l || not_element r ⇒ Malformed) ∷ []

abbrev pub pivot_lcp_answer : Key → List ℕ → Result ℕ Refusal
pivot_lcp_answer l r = answer (pivot_lcp_causes l r) (length (PivotLcp (key l) (element r)))

-- ShortestUncommonPrefix(prefix), into d
abbrev pub uncommon_prefix_causes : Key → List ℕ → List Cause
uncommon_prefix_causes p d = (too_long p ⇒ Malformed) ∷ (no_room record_size d ⇒ NoRoom) ∷ []

abbrev pub uncommon_prefix_answer : Key → List ℕ → Result ℕ Refusal
uncommon_prefix_answer p d = answer (uncommon_prefix_causes p d) 1

abbrev pub uncommon_prefix_leaves : Key → List ℕ → List ℕ
uncommon_prefix_leaves p d = leaves (uncommon_prefix_causes p d) (encode (ShortestUncommonPrefix p)) d
