-- The sixteen rows hold, T's list is the one in document 01, T's pivots are renamed, 4 comes before 5, what a bucket's destination must hold and whether it will fit, a pivot is put into T, and T's halves are joined.
use Rattle.std.specs.Prelude.{Result, Ok, Err}
use Rattle.model.specs.declared.Refusal.{Refusal}
use mathlib.Core.Path.{◌≡◌, refl}
use mathlib.Core.Bool.{Bool, true, false}
use mathlib.Core.List.{List, [], ◌∷◌, ◌++◌}
use Prim.Native.Nat.{ℕ, ◌*◌, ◌-◌}
use Rattle.model.specs.declared.Refusal.TheVariants.{Malformed, Unsorted, EmptyPrefix, OutOfRange, TooLong, NoRoom, AlreadyPivot, NotMeeting}
use Rattle.model.specs.keys.Key.{Key, change_prefix, IsPrefix}
use Rattle.model.specs.keys.Order.{key, max, lte_key, lte, last_place, LargestLte, LargestLt}
use Rattle.model.specs.ranges.RangePrefix.{lcpright, lcp, PivotLcp}
use Rattle.model.specs.ranges.UpperBound.{raised_at, uncommon_from, ShortestUncommonPrefix}
use Rattle.model.specs.records.Record.{edge, no_edge, length_field, all_zero, field_reading, reading, key_bytes, element, edge_of, record_of, encode, encode_edge}
use Rattle.model.specs.records.Record.{record_size, zeros, pieces, joined, records, elements, edges, encode_all, encode_edges}
use Rattle.model.specs.tables.Tables.{PivotTable, EdgeTable, all, rises_from, IsStrictlySorted, edges_fit, WFEdges, ContainsRange, is_pivot, Route, CutoffForLeft, CutoffForRight}
use Rattle.model.specs.cuts.Cuts.{SplitLeft, SplitRight, cut_edge, edge_within, SplitLeftEdges, SplitRightEdges}
use Rattle.model.specs.cuts.Insertion.{InsertPivot, InsertPivotEdges}
use Rattle.model.specs.cuts.Join.{not_meeting, JoinPivots, JoinEdges}
use Rattle.model.specs.translation.PrefixSet.{RevPrefixSet, ApplyPrefixSet, ComposePrefixSet}
use Rattle.model.specs.translation.Renaming.{TranslateElement, translate_right, TranslatePivotPairInternal, TranslatePivots}
use Rattle.model.specs.calls.Refusals.{outcome, paired}
use Rattle.model.specs.calls.TableCalls.{not_pivot_count, not_edge_count, pivots_read, edges_read, pivot_causes, table_causes}
use Rattle.model.specs.calls.TranslationCalls.{translate_key_answer}
use Rattle.model.specs.calls.InsertionCalls.{insert_answer}
use Rattle.model.specs.calls.JoinCalls.{join_answer}
use Rattle.model.specs.calls.RenamingCalls.{pivots_answer}
use Rattle.model.specs.buckets.Bucket.{Entry, number_size, entry_size, entry_bytes_by, entries, entry_of, encode_entry, encode_bucket, TranslateBucket}
use Rattle.model.specs.calls.BucketCalls.{not_entry_count_by, entries_read, bucket_causes, needed_bytes, translate_bucket_answer, will_fit_answer}
use Rattle.model.specs.list.ShelfList.{header, dash, digit, decimal, hex, key_text, element_text, edge_text, slot_line, slot_lines, table_text}
use Rattle.model.specs.list.ShelfList.{list_pivots, list_edges, not_list_size, list_causes, shelf_list}
use Rattle.model.specs.Rows.{AllHold, rows, pivots_t, edges_t, input_t, header_line, lines_t}

pub cases : AllHold rows
unfolding change_prefix IsPrefix lte_key lte last_place LargestLte LargestLt lcpright lcp PivotLcp raised_at uncommon_from ShortestUncommonPrefix Route CutoffForLeft CutoffForRight SplitLeft SplitRight cut_edge edge_within SplitLeftEdges SplitRightEdges RevPrefixSet ApplyPrefixSet ComposePrefixSet TranslateElement translate_right TranslatePivotPairInternal
cases =
    (refl, (refl, (refl, (refl, (refl, (refl, (refl, (refl, (refl, (refl, (refl, (refl, (refl, ((refl, refl), ((refl, refl), (refl, tt))))))))))))))))

pub list_of-T : shelf_list input_t ≡ header_line ++ lines_t
unfolding lte_key lte lcpright lcp PivotLcp length_field all_zero field_reading reading key_bytes element edge_of record_of encode encode_edge pieces joined records elements edges encode_all encode_edges all rises_from IsStrictlySorted edges_fit WFEdges outcome pivot_causes table_causes not_pivot_count not_edge_count pivots_read edges_read header dash digit decimal hex key_text element_text edge_text slot_line slot_lines table_text list_pivots list_edges not_list_size list_causes shelf_list
list_of-T = refl

-- T's pivots are renamed from 41 to 43 with the end 44: the last one, which 41 does not begin, is not looked at
pub renaming_of-T : pivots_answer (encode_all pivots_t) (0x41 ∷ []) (0x43 ∷ []) (encode (key (0x44 ∷ []))) (zeros (3 * record_size)) ≡ Ok 3
unfolding outcome pivot_causes not_pivot_count pivots_read records pieces elements encode_all encode record_of joined reading field_reading length_field all_zero element key_bytes IsStrictlySorted rises_from lte lte_key all IsPrefix change_prefix TranslateElement TranslatePivots
renaming_of-T = refl

-- 4 comes before 5: the key 50 lies past the pivots 41 and 43, whose edge stands over an empty prefix
pub four_before_five : translate_key_answer (encode_all (key (0x41 ∷ []) ∷ key (0x43 ∷ []) ∷ [])) (encode_edges (edge (0x50 ∷ []) ∷ [])) (0x50 ∷ []) [] ≡ Err EmptyPrefix
unfolding outcome table_causes pivot_causes not_pivot_count not_edge_count pivots_read edges_read records pieces elements edges encode_all encode_edges encode encode_edge record_of joined reading field_reading length_field all_zero element edge_of key_bytes IsStrictlySorted rises_from lte lte_key all WFEdges edges_fit PivotLcp lcp lcpright
four_before_five = refl

-- Three entries, as in FORMAT.md, of which a change of 41 to 43 keeps two: a byte less than two entries have is refused with 10, and their bytes are enough. Where a change keeps none, 0 bytes are enough. With a new prefix of 64 bytes and no room, 8 comes before 10
abbrev pub number_one : List ℕ
number_one = zeros (number_size - 1) ++ 1 ∷ []

abbrev pub entry_one : Key → Entry
entry_one k = record { key = k; number = number_one }

abbrev pub three_entries : List ℕ
three_entries = encode_bucket (entry_one (0x42 ∷ []) ∷ entry_one (0x41 ∷ 0x35 ∷ []) ∷ entry_one (0x41 ∷ 0x30 ∷ []) ∷ [])

abbrev pub three_renamed : Key → Key → List ℕ → Result ℕ Refusal
three_renamed p q d = translate_bucket_answer three_entries p q d

pub room_of_three : (three_renamed (0x41 ∷ []) (0x43 ∷ []) (zeros (2 * entry_size - 1)) ≡ Err NoRoom) × (three_renamed (0x41 ∷ []) (0x43 ∷ []) (zeros (2 * entry_size)) ≡ Ok 2)
    × (three_renamed (0x44 ∷ []) (0x43 ∷ []) [] ≡ Ok 0) × (three_renamed (0x41 ∷ []) (zeros 64) [] ≡ Err TooLong)
unfolding outcome bucket_causes not_entry_count_by entries_read needed_bytes entry_bytes_by entries entry_of pieces encode_bucket encode_entry joined record_of reading field_reading length_field all_zero key_bytes all IsPrefix change_prefix TranslateBucket
room_of_three = (refl, refl, refl, refl)

-- whether those three entries will fit is told as the call answers it, and a prefix of 65 bytes is refused
abbrev pub three_fit : Key → Key → ℕ → Result Bool Refusal
three_fit p q n = will_fit_answer three_entries p q n

pub fit_of_three : (three_fit (0x41 ∷ []) (0x43 ∷ []) (2 * entry_size - 1) ≡ Ok false) × (three_fit (0x41 ∷ []) (0x43 ∷ []) (2 * entry_size) ≡ Ok true) × (three_fit (0x44 ∷ []) (0x43 ∷ []) 0 ≡ Ok true)
    × (three_fit (0x41 ∷ []) (zeros 64) (2 * entry_size) ≡ Ok false) × (three_fit (0x41 ∷ []) (zeros 65) (2 * entry_size) ≡ Err Malformed)
unfolding outcome bucket_causes not_entry_count_by entries_read needed_bytes entry_bytes_by entries entry_of pieces encode_bucket encode_entry joined record_of reading field_reading length_field all_zero key_bytes all IsPrefix change_prefix TranslateBucket
fit_of_three = (refl, refl, refl, refl, refl)

-- T with 41 31 put in, as FORMAT has it; its last pivot is refused with 11, and what is above it with 5
abbrev pub inserts_t : Key → List ℕ → List ℕ → Result ℕ Refusal
inserts_t k dp de = insert_answer (encode_all pivots_t) (encode_edges edges_t) k dp de

pub insertion_into-T : (InsertPivot pivots_t 1 (0x41 ∷ 0x31 ∷ []) ≡ key (0x41 ∷ 0x30 ∷ []) ∷ key (0x41 ∷ 0x31 ∷ []) ∷ key (0x41 ∷ 0x35 ∷ []) ∷ key (0x42 ∷ []) ∷ [])
    × (InsertPivotEdges edges_t pivots_t (0x41 ∷ 0x31 ∷ []) ≡ edge (0x43 ∷ 0x30 ∷ []) ∷ edge (0x43 ∷ []) ∷ no_edge ∷ [])
    × (inserts_t (0x41 ∷ 0x31 ∷ []) (zeros 264) (zeros 198) ≡ Ok 4) × (inserts_t (0x41 ∷ 0x31 ∷ []) (zeros 264) (zeros 197) ≡ Err NoRoom)
    × (inserts_t (0x42 ∷ []) [] [] ≡ Err AlreadyPivot) × (inserts_t (0x42 ∷ 0x00 ∷ []) [] [] ≡ Err OutOfRange)
unfolding outcome table_causes pivot_causes not_pivot_count not_edge_count pivots_read edges_read records pieces elements edges encode_all encode_edges encode encode_edge record_of joined reading field_reading length_field all_zero element edge_of key_bytes IsStrictlySorted rises_from lte lte_key all WFEdges edges_fit PivotLcp lcp lcpright ContainsRange is_pivot last_place LargestLte Route InsertPivot InsertPivotEdges edge_within cut_edge change_prefix
insertion_into-T = (refl, refl, refl, refl, refl, refl)

-- T's two slots as tables, joined, are T, as FORMAT has it; the other way round, and where the first ends with max, they don't meet; the second may end with it
abbrev pub joins_of : PivotTable → EdgeTable → PivotTable → EdgeTable → List ℕ → List ℕ → Result ℕ Refusal
joins_of pt et qt ft dp de = join_answer (encode_all pt) (encode_edges et) (encode_all qt) (encode_edges ft) dp de

abbrev pub first_t : PivotTable
first_t = key (0x41 ∷ 0x30 ∷ []) ∷ key (0x41 ∷ 0x35 ∷ []) ∷ []

abbrev pub second_t : PivotTable
second_t = key (0x41 ∷ 0x35 ∷ []) ∷ key (0x42 ∷ []) ∷ []

pub join_of-T : (JoinPivots first_t second_t ≡ pivots_t) × (JoinEdges (edge (0x43 ∷ []) ∷ []) (no_edge ∷ []) ≡ edges_t)
    × (joins_of first_t (edge (0x43 ∷ []) ∷ []) second_t (no_edge ∷ []) (zeros 198) (zeros 132) ≡ Ok 3)
    × (joins_of first_t (edge (0x43 ∷ []) ∷ []) second_t (no_edge ∷ []) (zeros 197) (zeros 132) ≡ Err NoRoom)
    × (joins_of first_t (edge (0x43 ∷ []) ∷ []) second_t (no_edge ∷ []) (zeros 198) (zeros 131) ≡ Err NoRoom)
    × (joins_of second_t (no_edge ∷ []) first_t (edge (0x43 ∷ []) ∷ []) [] [] ≡ Err NotMeeting)
    × (joins_of (key (0x41 ∷ []) ∷ max ∷ []) (no_edge ∷ []) first_t (no_edge ∷ []) [] [] ≡ Err NotMeeting)
    × (joins_of first_t (no_edge ∷ []) (key (0x41 ∷ 0x35 ∷ []) ∷ max ∷ []) (no_edge ∷ []) (zeros 198) (zeros 132) ≡ Ok 3)
    × (not_meeting (key (0x41 ∷ []) ∷ max ∷ []) (max ∷ []) ≡ true)
unfolding outcome paired table_causes pivot_causes not_pivot_count not_edge_count pivots_read edges_read records pieces elements edges encode_all encode_edges encode encode_edge record_of joined reading field_reading length_field all_zero element edge_of key_bytes IsStrictlySorted rises_from lte lte_key all WFEdges edges_fit PivotLcp lcp lcpright not_meeting JoinPivots JoinEdges
join_of-T = (refl, refl, refl, refl, refl, refl, refl, refl, refl)

-- of both tables the smallest number: 3 of the first gives way to 2 of the second, which begins with max, and 4 of the first to 3 of the second
pub smallest_of_both : (joins_of (key (0x41 ∷ []) ∷ key [] ∷ []) (no_edge ∷ []) (max ∷ key [] ∷ []) (no_edge ∷ []) [] [] ≡ Err Malformed)
    × (joins_of (key (0x41 ∷ []) ∷ key (0x43 ∷ []) ∷ []) (edge [] ∷ []) (key (0x43 ∷ []) ∷ key [] ∷ []) (no_edge ∷ []) [] [] ≡ Err Unsorted)
unfolding outcome paired table_causes pivot_causes not_pivot_count not_edge_count pivots_read edges_read records pieces elements edges encode_all encode_edges encode encode_edge record_of joined reading field_reading length_field all_zero element edge_of key_bytes IsStrictlySorted rises_from lte lte_key all WFEdges edges_fit PivotLcp lcp lcpright not_meeting JoinPivots JoinEdges
smallest_of_both = (refl, refl)
