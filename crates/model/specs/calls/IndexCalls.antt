-- The calls on a bucket with its index: for each its causes in order, its answer, and what it leaves in each destination.
use Rattle.std.specs.Prelude.{Bool, false, not, ◌&&◌, ◌||◌, List, [], ◌∷◌, ◌++◌, ℕ, ◌*◌, eqb, ltb, length, Result}
use Rattle.model.specs.declared.Refusal.{Refusal}
use Rattle.model.specs.declared.Refusal.TheVariants.{OutOfRange, NoSuchSlot, TooLong, NoRoom, EntriesUnsorted, WrongIndex}
use Rattle.model.specs.keys.Key.{Key, too_long, IsPrefix}
use Rattle.model.specs.records.Record.{elements}
use Rattle.model.specs.tables.Tables.{PivotTable, NumBuckets, all, BoundedKey}
use Rattle.model.specs.cuts.Sides.{inside}
use Rattle.model.specs.buckets.Bucket.{Entry, Bucket, entry_size, entries, encode_bucket, entries_rise}
use Rattle.model.specs.buckets.Index.{entries_beside, Index, slot_entries, TranslateIndex, place_size, encode_index}
use Rattle.model.specs.calls.Refusals.{Cause, ◌⇒◌, paired, answer, leaves, part}
use Rattle.model.specs.calls.KeyCalls.{no_room}
use Rattle.model.specs.calls.TableCalls.{pivot_causes}
use Rattle.model.specs.calls.CutCalls.{cut_pivots, room_causes}
use Rattle.model.specs.calls.BucketCalls.{bucket_causes, new_bucket, needed_bytes, bucket_long}

-- Pivots p, the bucket l and its index x

-- no entry is outside the table
unfoldable pub entries_inside : PivotTable → Bucket → Bool
entries_inside pt b = all (λ (e : Entry). BoundedKey pt e.key) b

-- causes 1 to 3 of pivots and bucket by number; "14, entries don't rise strictly, after 4"; "An entry outside the table is 5". Whether another argument has cause 2 or 5 comes with them
unfoldable pub entries_causes : Bool → Bool → List ℕ → List ℕ → List Cause
entries_causes wrong outside p l =
    paired (pivot_causes false wrong p) (bucket_causes false l)
    ++ ((not (entries_rise (entries l)) ⇒ EntriesUnsorted) ∷
    (outside || not (entries_inside (elements p) (entries l)) ⇒ OutOfRange) ∷ [])

-- the index that belongs to the table and the bucket
abbrev pub index_bytes : List ℕ → List ℕ → List ℕ
index_bytes p l = encode_index (Index (elements p) (entries l))

-- "15, a given index isn't the one that belongs to table and bucket, its length included, after 5"
abbrev pub wrong_index : List ℕ → List ℕ → List ℕ → Bool
wrong_index p l x = not (eqb (length x) (length (index_bytes p l)) && IsPrefix x (index_bytes p l))

unfoldable pub given_causes : Bool → Bool → List ℕ → List ℕ → List ℕ → List Cause
given_causes wrong outside p l x = entries_causes wrong outside p l ++ ((wrong_index p l x ⇒ WrongIndex) ∷ [])

-- ---- build_index, into d, and check_index: "Each answers the total in the index that it built, checked or wrote"

abbrev pub build_index_causes : List ℕ → List ℕ → List ℕ → List Cause
build_index_causes p l d = entries_causes false false p l ++ ((no_room (length (elements p) * place_size) d ⇒ NoRoom) ∷ [])

abbrev pub build_index_answer : List ℕ → List ℕ → List ℕ → Result ℕ Refusal
build_index_answer p l d = answer (build_index_causes p l d) (length (entries l))

abbrev pub build_index_leaves : List ℕ → List ℕ → List ℕ → List ℕ
build_index_leaves p l d = leaves (build_index_causes p l d) (index_bytes p l) d

abbrev pub check_index_answer : List ℕ → List ℕ → List ℕ → Result ℕ Refusal
check_index_answer p l x = answer (given_causes false false p l x) (length (entries l))

-- ---- slot_entries: how many entries slot i has, and the part of the bucket beside it

abbrev pub slot_entries_causes : List ℕ → List ℕ → List ℕ → ℕ → List Cause
slot_entries_causes p l x i = given_causes false false p l x ++ ((not (ltb i (NumBuckets (elements p))) ⇒ NoSuchSlot) ∷ [])

abbrev pub slot_entries_answer : List ℕ → List ℕ → List ℕ → ℕ → Result ℕ Refusal
slot_entries_answer p l x i = answer (slot_entries_causes p l x i) (length (slot_entries (elements p) (entries l) i))

abbrev pub slot_entries_part : List ℕ → List ℕ → List ℕ → ℕ → List ℕ
slot_entries_part p l x i = part (slot_entries_causes p l x i) (encode_bucket (slot_entries (elements p) (entries l) i))

-- ---- cut_index_left and cut_index_right at k: entries into db, their index into dx

abbrev pub cut_entries : Bool → List ℕ → Key → Bucket
cut_entries left l k = entries_beside left k (entries l)

-- "A cut writes the entries on its side of the key, and the index that belongs to them and the cut table"
abbrev pub cut_index : Bool → List ℕ → List ℕ → Key → List ℕ
cut_index left p l k = Index (cut_pivots left p k) (cut_entries left l k)

abbrev pub cut_index_causes : Bool → List ℕ → List ℕ → List ℕ → Key → List ℕ → List ℕ → List Cause
cut_index_causes left p l x k db dx =
    given_causes (too_long k) (not (inside left (elements p) k)) p l x
    ++ room_causes (length (cut_entries left l k) * entry_size) (length (cut_pivots left p k) * place_size) db dx

abbrev pub cut_index_answer : Bool → List ℕ → List ℕ → List ℕ → Key → List ℕ → List ℕ → Result ℕ Refusal
cut_index_answer left p l x k db dx = answer (cut_index_causes left p l x k db dx) (length (cut_entries left l k))

abbrev pub cut_index_leaves_bucket : Bool → List ℕ → List ℕ → List ℕ → Key → List ℕ → List ℕ → List ℕ
cut_index_leaves_bucket left p l x k db dx = leaves (cut_index_causes left p l x k db dx) (encode_bucket (cut_entries left l k)) db

abbrev pub cut_index_leaves_index : Bool → List ℕ → List ℕ → List ℕ → Key → List ℕ → List ℕ → List ℕ
cut_index_leaves_index left p l x k db dx = leaves (cut_index_causes left p l x k db dx) (encode_index (cut_index left p l k)) dx

-- ---- translate_index from the prefix old to new: entries into db, the places where each slot's then begin into dx

abbrev pub translate_index_causes : List ℕ → List ℕ → List ℕ → Key → Key → List ℕ → List ℕ → List Cause
translate_index_causes p l x old new db dx =
    given_causes (too_long old || too_long new) false p l x
    ++ ((bucket_long l old new ⇒ TooLong) ∷ room_causes (needed_bytes l old new) (length (elements p) * place_size) db dx)

abbrev pub translate_index_answer : List ℕ → List ℕ → List ℕ → Key → Key → List ℕ → List ℕ → Result ℕ Refusal
translate_index_answer p l x old new db dx = answer (translate_index_causes p l x old new db dx) (length (new_bucket l old new))

abbrev pub translate_index_leaves_bucket : List ℕ → List ℕ → List ℕ → Key → Key → List ℕ → List ℕ → List ℕ
translate_index_leaves_bucket p l x old new db dx = leaves (translate_index_causes p l x old new db dx) (encode_bucket (new_bucket l old new)) db

abbrev pub translate_index_leaves_index : List ℕ → List ℕ → List ℕ → Key → Key → List ℕ → List ℕ → List ℕ
translate_index_leaves_index p l x old new db dx =
    leaves (translate_index_causes p l x old new db dx) (encode_index (TranslateIndex (elements p) (entries l) old new)) dx
