-- A bucket of three entries has its index: built, checked, asked for a slot, cut and translated; and which cause comes first.
use Rattle.std.specs.Prelude.{Result, Ok, Err}
use Rattle.model.specs.declared.Refusal.{Refusal}
use mathlib.Core.Path.{◌≡◌, refl}
use mathlib.Core.Bool.{Bool, true, false}
use mathlib.Core.List.{List, [], ◌∷◌, ◌++◌}
use Prim.Native.Nat.{ℕ, ◌+◌, ◌*◌, ◌-◌}
use Rattle.model.specs.declared.Refusal.TheVariants.{Shape, Malformed, Unsorted, OutOfRange, NoSuchSlot, TooLong, NoRoom, EntriesUnsorted, WrongIndex}
use Rattle.model.specs.keys.Key.{Key, change_prefix, IsPrefix}
use Rattle.model.specs.keys.Order.{key, max, lte_key, lte, last_place, LargestLte, LargestLt}
use Rattle.model.specs.records.Record.{length_field, all_zero, field_reading, reading, key_bytes, element, record_of, encode, zeros, pieces, joined, records, elements, encode_all}
use Rattle.model.specs.tables.Tables.{PivotTable, all, rises_from, IsStrictlySorted, BoundedKey, ValidLeftCutOffKey, Route, CutoffForLeft, CutoffForRight}
use Rattle.model.specs.cuts.Cuts.{SplitLeft, SplitRight}
use Rattle.model.specs.buckets.Bucket.{Entry, Bucket, entry_size, entry_bytes_by, entries, entry_of, encode_entry, encode_bucket, TranslateBucket, entries_rise}
use Rattle.model.specs.buckets.Index.{only, entries_below, entries_from, entries_beside, Index, slot_entries, slots_from, slot_buckets, together, places_from, TranslateIndex, encode_place, encode_index, places}
use Rattle.model.specs.calls.Refusals.{outcome, paired, over}
use Rattle.model.specs.calls.TableCalls.{not_pivot_count, pivots_read, pivot_causes}
use Rattle.model.specs.calls.BucketCalls.{not_entry_count_by, entries_read, bucket_causes, needed_bytes}
use Rattle.model.specs.calls.IndexCalls.{entries_inside, entries_causes, given_causes, build_index_answer, build_index_leaves, check_index_answer, slot_entries_answer, slot_entries_part}
use Rattle.model.specs.calls.IndexCalls.{cut_index, cut_index_answer, cut_index_leaves_bucket, cut_index_leaves_index, translate_index_answer, translate_index_leaves_bucket, translate_index_leaves_index}
use Rattle.model.proofs.Rows.{number_one, entry_one}

-- a table of the pivots 61, 63 and 65 with the entries 61, 62 and 63: the index is 0, 2, 3, and an entry at a pivot lies in the slot on its right
abbrev pub pivots_ace : PivotTable
pivots_ace = key (0x61 ∷ []) ∷ key (0x63 ∷ []) ∷ key (0x65 ∷ []) ∷ []

abbrev pub entry_a : Entry
entry_a = entry_one (0x61 ∷ [])

abbrev pub entry_b : Entry
entry_b = entry_one (0x62 ∷ [])

abbrev pub entry_c : Entry
entry_c = entry_one (0x63 ∷ [])

abbrev pub bucket_abc : Bucket
bucket_abc = entry_a ∷ entry_b ∷ entry_c ∷ []

pub index_of_abc : (Index pivots_ace bucket_abc ≡ 0 ∷ 2 ∷ 3 ∷ []) × (slot_entries pivots_ace bucket_abc 0 ≡ entry_a ∷ entry_b ∷ []) × (slot_entries pivots_ace bucket_abc 1 ≡ entry_c ∷ [])
    × (slot_entries (key (0x61 ∷ []) ∷ key (0x62 ∷ []) ∷ key (0x63 ∷ []) ∷ max ∷ []) bucket_abc 1 ≡ entry_b ∷ [])
    × (slot_buckets pivots_ace bucket_abc ≡ (entry_a ∷ entry_b ∷ []) ∷ (entry_c ∷ []) ∷ [])
    × (together ((entry_a ∷ entry_b ∷ []) ∷ [] ∷ (entry_c ∷ []) ∷ []) ≡ bucket_abc) × (places_from 0 ((entry_a ∷ entry_b ∷ []) ∷ [] ∷ (entry_c ∷ []) ∷ []) ≡ 0 ∷ 2 ∷ 2 ∷ 3 ∷ [])
unfolding only entries_below Index slot_entries slots_from slot_buckets together places_from lte lte_key
index_of_abc = (refl, refl, refl, refl, refl, refl, refl)

-- a slot without entries, the first, one in the middle or the last, has the place where the next begins; without entries all are 0
pub index_of_empty_slots : (Index pivots_ace (entry_c ∷ []) ≡ 0 ∷ 0 ∷ 1 ∷ []) × (Index (key (0x61 ∷ []) ∷ key (0x62 ∷ []) ∷ key (0x63 ∷ []) ∷ max ∷ []) (entry_a ∷ entry_c ∷ []) ≡ 0 ∷ 1 ∷ 1 ∷ 2 ∷ [])
    × (Index pivots_ace (entry_a ∷ []) ≡ 0 ∷ 1 ∷ 1 ∷ []) × (Index pivots_ace [] ≡ 0 ∷ 0 ∷ 0 ∷ [])
unfolding only entries_below Index lte lte_key
index_of_empty_slots = (refl, refl, refl, refl)

-- a place has two bytes, high byte first
pub place_bytes : (encode_place 258 ≡ 1 ∷ 2 ∷ []) × (encode_index (0 ∷ 2 ∷ 258 ∷ []) ≡ 0 ∷ 0 ∷ 0 ∷ 2 ∷ 1 ∷ 2 ∷ []) × (places (0 ∷ 0 ∷ 0 ∷ 2 ∷ 1 ∷ 2 ∷ []) ≡ 0 ∷ 2 ∷ 258 ∷ [])
unfolding encode_place encode_index places pieces joined length_field
place_bytes = (refl, refl, refl)

-- built, and checked: the total is 3, of one entry 1; a destination of 5 bytes is 10; with a byte changed, one fewer or one more it is 15
abbrev pub index_abc : List ℕ
index_abc = 0 ∷ 0 ∷ 0 ∷ 2 ∷ 0 ∷ 3 ∷ []

abbrev pub builds_abc : List ℕ → Result ℕ Refusal
builds_abc d = build_index_answer (encode_all pivots_ace) (encode_bucket bucket_abc) d

abbrev pub checks_abc : List ℕ → Result ℕ Refusal
checks_abc x = check_index_answer (encode_all pivots_ace) (encode_bucket bucket_abc) x

pub built_of_abc : (builds_abc (zeros 6) ≡ Ok 3) × (builds_abc (zeros 5) ≡ Err NoRoom)
    × (build_index_leaves (encode_all pivots_ace) (encode_bucket bucket_abc) (9 ∷ 9 ∷ 9 ∷ 9 ∷ 9 ∷ 9 ∷ 9 ∷ []) ≡ index_abc ++ 9 ∷ [])
    × (checks_abc index_abc ≡ Ok 3) × (checks_abc (0 ∷ 0 ∷ 0 ∷ 1 ∷ 0 ∷ 3 ∷ []) ≡ Err WrongIndex) × (checks_abc (0 ∷ 0 ∷ 0 ∷ 2 ∷ 0 ∷ []) ≡ Err WrongIndex)
    × (checks_abc (index_abc ++ 0 ∷ []) ≡ Err WrongIndex) × (build_index_answer (encode_all pivots_ace) (encode_bucket (entry_a ∷ [])) (zeros 6) ≡ Ok 1)
    × (check_index_answer (encode_all pivots_ace) (encode_bucket (entry_a ∷ [])) (0 ∷ 0 ∷ 0 ∷ 1 ∷ 0 ∷ 1 ∷ []) ≡ Ok 1)
unfolding outcome over paired pivot_causes not_pivot_count pivots_read records pieces elements encode_all encode record_of joined reading field_reading length_field all_zero element key_bytes IsStrictlySorted rises_from lte lte_key all bucket_causes not_entry_count_by entries_read entry_bytes_by entries entry_of encode_bucket encode_entry entries_rise BoundedKey entries_inside entries_causes given_causes only entries_below Index encode_place encode_index IsPrefix
built_of_abc = (refl, refl, refl, refl, refl, refl, refl, refl, refl)

-- slot 0 has two entries and slot 1 one, handed back as they stand; there is no slot 2, which 15 comes before
abbrev pub slot_abc : List ℕ → ℕ → Result ℕ Refusal
slot_abc x i = slot_entries_answer (encode_all pivots_ace) (encode_bucket bucket_abc) x i

abbrev pub part_abc : ℕ → List ℕ
part_abc i = slot_entries_part (encode_all pivots_ace) (encode_bucket bucket_abc) index_abc i

pub slots_of_abc : (slot_abc index_abc 0 ≡ Ok 2) × (slot_abc index_abc 1 ≡ Ok 1) × (slot_abc index_abc 2 ≡ Err NoSuchSlot) × (slot_abc [] 2 ≡ Err WrongIndex)
    × (part_abc 0 ≡ encode_bucket (entry_a ∷ entry_b ∷ [])) × (part_abc 1 ≡ encode_bucket (entry_c ∷ [])) × (part_abc 2 ≡ [])
unfolding outcome over paired pivot_causes not_pivot_count pivots_read records pieces elements encode_all encode record_of joined reading field_reading length_field all_zero element key_bytes IsStrictlySorted rises_from lte lte_key all bucket_causes not_entry_count_by entries_read entry_bytes_by entries entry_of encode_bucket encode_entry entries_rise BoundedKey entries_inside entries_causes given_causes only entries_below Index encode_place encode_index IsPrefix slot_entries
slots_of_abc = (refl, refl, refl, refl, refl, refl, refl)

-- cut at 62: on the left 61 with the index 0, 1 of the pivots 61, 62; on the right 62 and 63 with the index 0, 1, 2 of the pivots 62, 63, 65
abbrev pub cuts_abc : Bool → Key → List ℕ → List ℕ → Result ℕ Refusal
cuts_abc left k db dx = cut_index_answer left (encode_all pivots_ace) (encode_bucket bucket_abc) index_abc k db dx

pub cut_of_abc : (entries_beside true (0x62 ∷ []) bucket_abc ≡ entry_a ∷ []) × (entries_beside false (0x62 ∷ []) bucket_abc ≡ entry_b ∷ entry_c ∷ [])
    × (cut_index true (encode_all pivots_ace) (encode_bucket bucket_abc) (0x62 ∷ []) ≡ 0 ∷ 1 ∷ []) × (cut_index false (encode_all pivots_ace) (encode_bucket bucket_abc) (0x62 ∷ []) ≡ 0 ∷ 1 ∷ 2 ∷ [])
    × (cut_index_leaves_bucket true (encode_all pivots_ace) (encode_bucket bucket_abc) index_abc (0x62 ∷ []) (zeros (entry_size + 1)) (zeros 4) ≡ encode_bucket (entry_a ∷ []) ++ 0 ∷ [])
    × (cut_index_leaves_index true (encode_all pivots_ace) (encode_bucket bucket_abc) index_abc (0x62 ∷ []) (zeros entry_size) (9 ∷ 9 ∷ 9 ∷ 9 ∷ 9 ∷ []) ≡ 0 ∷ 0 ∷ 0 ∷ 1 ∷ 9 ∷ [])
    × (cut_index_leaves_bucket false (encode_all pivots_ace) (encode_bucket bucket_abc) index_abc (0x62 ∷ []) (zeros (2 * entry_size)) (zeros 6) ≡ encode_bucket (entry_b ∷ entry_c ∷ []))
    × (cut_index_leaves_index false (encode_all pivots_ace) (encode_bucket bucket_abc) index_abc (0x62 ∷ []) (zeros (2 * entry_size)) (zeros 6) ≡ 0 ∷ 0 ∷ 0 ∷ 1 ∷ 0 ∷ 2 ∷ [])
unfolding outcome over paired pivot_causes not_pivot_count pivots_read records pieces elements encode_all encode record_of joined reading field_reading length_field all_zero element key_bytes IsStrictlySorted rises_from lte lte_key all bucket_causes not_entry_count_by entries_read entry_bytes_by entries entry_of encode_bucket encode_entry entries_rise BoundedKey entries_inside entries_causes given_causes only entries_below Index encode_place encode_index IsPrefix entries_from ValidLeftCutOffKey last_place LargestLte LargestLt Route CutoffForLeft CutoffForRight SplitLeft SplitRight
cut_of_abc = (refl, refl, refl, refl, refl, refl, refl, refl)

-- each side answers its entries and needs the bytes of an entry for each, and two for each of its pivots; the left is not cut at the first pivot, nor the right at the last
pub cut_room_of_abc : (cuts_abc true (0x62 ∷ []) (zeros entry_size) (zeros 4) ≡ Ok 1) × (cuts_abc true (0x62 ∷ []) (zeros (entry_size - 1)) (zeros 4) ≡ Err NoRoom) × (cuts_abc true (0x62 ∷ []) (zeros entry_size) (zeros 3) ≡ Err NoRoom)
    × (cuts_abc false (0x62 ∷ []) (zeros (2 * entry_size)) (zeros 6) ≡ Ok 2) × (cuts_abc false (0x62 ∷ []) (zeros (2 * entry_size - 1)) (zeros 6) ≡ Err NoRoom) × (cuts_abc false (0x62 ∷ []) (zeros (2 * entry_size)) (zeros 5) ≡ Err NoRoom)
    × (cuts_abc true (0x61 ∷ []) [] [] ≡ Err OutOfRange) × (cuts_abc false (0x61 ∷ []) (zeros (3 * entry_size)) (zeros 6) ≡ Ok 3)
    × (cuts_abc true (0x65 ∷ []) (zeros (3 * entry_size)) (zeros 6) ≡ Ok 3) × (cuts_abc false (0x65 ∷ []) [] [] ≡ Err OutOfRange) × (cuts_abc true (zeros 65) [] [] ≡ Err Malformed)
unfolding outcome over paired pivot_causes not_pivot_count pivots_read records pieces elements encode_all encode record_of joined reading field_reading length_field all_zero element key_bytes IsStrictlySorted rises_from lte lte_key all bucket_causes not_entry_count_by entries_read entry_bytes_by entries entry_of encode_bucket encode_entry entries_rise BoundedKey entries_inside entries_causes given_causes only entries_below Index encode_place encode_index IsPrefix entries_from ValidLeftCutOffKey last_place LargestLte LargestLt Route CutoffForLeft CutoffForRight SplitLeft SplitRight
cut_room_of_abc = (refl, refl, refl, refl, refl, refl, refl, refl, refl, refl, refl)

-- translated from the prefix 62 to 78 only 62 is kept, in slot 0: the places are 0, 1, 1; translated from the empty prefix all are
abbrev pub translates_abc : Key → Key → List ℕ → List ℕ → Result ℕ Refusal
translates_abc p q db dx = translate_index_answer (encode_all pivots_ace) (encode_bucket bucket_abc) index_abc p q db dx

pub translation_of_abc : (TranslateIndex pivots_ace bucket_abc (0x62 ∷ []) (0x78 ∷ []) ≡ 0 ∷ 1 ∷ 1 ∷ []) × (TranslateIndex pivots_ace bucket_abc [] (0x78 ∷ []) ≡ 0 ∷ 2 ∷ 3 ∷ [])
    × (translates_abc (0x62 ∷ []) (0x78 ∷ []) (zeros entry_size) (zeros 6) ≡ Ok 1) × (translates_abc (0x62 ∷ []) (0x78 ∷ []) (zeros (entry_size - 1)) (zeros 6) ≡ Err NoRoom)
    × (translates_abc (0x62 ∷ []) (0x78 ∷ []) (zeros entry_size) (zeros 5) ≡ Err NoRoom) × (translates_abc [] (zeros 64) [] [] ≡ Err TooLong) × (translates_abc [] (zeros 65) [] [] ≡ Err Malformed) × (translates_abc (zeros 65) [] [] [] ≡ Err Malformed)
    × (translate_index_leaves_bucket (encode_all pivots_ace) (encode_bucket bucket_abc) index_abc (0x62 ∷ []) (0x78 ∷ []) (zeros entry_size) (zeros 6) ≡ encode_bucket (entry_one (0x78 ∷ []) ∷ []))
    × (translate_index_leaves_index (encode_all pivots_ace) (encode_bucket bucket_abc) index_abc (0x62 ∷ []) (0x78 ∷ []) (zeros entry_size) (9 ∷ 9 ∷ 9 ∷ 9 ∷ 9 ∷ 9 ∷ 9 ∷ []) ≡ 0 ∷ 0 ∷ 0 ∷ 1 ∷ 0 ∷ 1 ∷ 9 ∷ [])
unfolding outcome over paired pivot_causes not_pivot_count pivots_read records pieces elements encode_all encode record_of joined reading field_reading length_field all_zero element key_bytes IsStrictlySorted rises_from lte lte_key all bucket_causes not_entry_count_by entries_read entry_bytes_by entries entry_of encode_bucket encode_entry entries_rise BoundedKey entries_inside entries_causes given_causes only entries_below Index encode_place encode_index IsPrefix needed_bytes change_prefix TranslateBucket TranslateIndex
translation_of_abc = (refl, refl, refl, refl, refl, refl, refl, refl, refl, refl)

-- Of pivots and a bucket the first refusal is told: 1 of the bucket before 2 of the pivots; 1 of the pivots before 2 of the bucket, and that before 3 of the pivots. Then come 14 (two equal entries don't rise), 5 (an entry at the last pivot is outside) and 15
abbrev pub pivots_down : PivotTable
pivots_down = key (0x63 ∷ []) ∷ key (0x61 ∷ []) ∷ []

abbrev pub checks_of : PivotTable → List ℕ → List ℕ → Result ℕ Refusal
checks_of pt l x = check_index_answer (encode_all pt) l x

pub first_of_check : (checks_of (max ∷ key [] ∷ []) (0 ∷ []) [] ≡ Err Shape) × (checks_of [] (encode max ++ number_one) [] ≡ Err Shape)
    × (checks_of pivots_down (encode max ++ number_one) [] ≡ Err Malformed)
    × (checks_of pivots_down (encode_bucket (entry_b ∷ entry_a ∷ [])) [] ≡ Err Unsorted) × (checks_of pivots_ace (encode_bucket (entry_one [] ∷ entry_one [] ∷ [])) [] ≡ Err EntriesUnsorted)
    × (checks_of pivots_ace (encode_bucket (entry_one (0x65 ∷ []) ∷ [])) [] ≡ Err OutOfRange) × (checks_of pivots_ace (encode_bucket (entry_one [] ∷ [])) [] ≡ Err OutOfRange)
    × (checks_of pivots_ace [] [] ≡ Err WrongIndex)
unfolding outcome paired pivot_causes not_pivot_count pivots_read records pieces elements encode_all encode record_of joined reading field_reading length_field all_zero element key_bytes IsStrictlySorted rises_from lte lte_key all bucket_causes not_entry_count_by entries_read entry_bytes_by entries entry_of encode_bucket encode_entry entries_rise BoundedKey entries_inside entries_causes given_causes only entries_below Index encode_place encode_index IsPrefix
first_of_check = (refl, refl, refl, refl, refl, refl, refl, refl)

-- The first refusal of a cut: 1 of the bucket comes before a key over 64 bytes, and that before 3; 14 comes before a key outside the table, and that before 15, which comes before 10. Of a translation 15 comes before 8, and where an index is built 5 of an entry comes before 10
abbrev pub cuts_of : PivotTable → List ℕ → Key → Result ℕ Refusal
cuts_of pt l k = cut_index_answer false (encode_all pt) l [] k [] []

pub first_of_calls : (cuts_of pivots_down (0 ∷ []) (zeros 65) ≡ Err Shape) × (cuts_of pivots_down [] (zeros 65) ≡ Err Malformed)
    × (cuts_of pivots_ace (encode_bucket (entry_b ∷ entry_a ∷ [])) [] ≡ Err EntriesUnsorted) × (cuts_of pivots_ace (encode_bucket bucket_abc) [] ≡ Err OutOfRange)
    × (cuts_of pivots_ace (encode_bucket bucket_abc) (0x62 ∷ []) ≡ Err WrongIndex)
    × (translate_index_answer (encode_all pivots_ace) (encode_bucket bucket_abc) [] [] (zeros 64) [] [] ≡ Err WrongIndex)
    × (build_index_answer (encode_all pivots_ace) (encode_bucket (entry_one [] ∷ [])) [] ≡ Err OutOfRange)
unfolding outcome paired pivot_causes not_pivot_count pivots_read records pieces elements encode_all encode record_of joined reading field_reading length_field all_zero element key_bytes IsStrictlySorted rises_from lte lte_key all bucket_causes not_entry_count_by entries_read entry_bytes_by entries entry_of encode_bucket encode_entry entries_rise BoundedKey entries_inside entries_causes given_causes only entries_below Index encode_place encode_index IsPrefix entries_from ValidLeftCutOffKey last_place LargestLte LargestLt Route CutoffForLeft CutoffForRight SplitLeft SplitRight needed_bytes change_prefix TranslateBucket
first_of_calls = (refl, refl, refl, refl, refl, refl, refl)
