-- Refusals by their numbers, what a call tells, and records, keys, edges and buckets that are just inside and just outside of what is taken.
use Rattle.std.specs.Prelude.{Result, Ok, Err}
use mathlib.Core.Path.{◌≡◌, refl}
use mathlib.Core.Bool.{Bool, true, false}
use mathlib.Core.List.{List, [], ◌∷◌, ◌++◌, map}
use Prim.Native.Nat.{ℕ, ◌*◌}
use lib.IntN.{pos, negsuc}
use lib.ListN.{length}
use Rattle.model.specs.declared.Refusal.{Refusal}
use Rattle.model.specs.declared.Refusal.TheVariants.{Shape, Malformed, Unsorted, EmptyPrefix, OutOfRange, NoSuchSlot, NotPrefix, TooLong, NotBelow, NoRoom, AlreadyPivot, TooManyPivots, NotMeeting, EntriesUnsorted, WrongIndex}
use Rattle.model.specs.keys.Key.{Key, IsPrefix, change_prefix}
use Rattle.model.specs.keys.Order.{key, max, lte_key, lte, cmp}
use Rattle.model.specs.ranges.RangePrefix.{lcpright, lcp, PivotLcp}
use Rattle.model.specs.records.Record.{edge, no_edge, length_field, all_zero, field_reading, reading, key_bytes, element, edge_of, record_of, encode, encode_edge}
use Rattle.model.specs.records.Record.{zeros, pieces, joined, records, elements, edges, encode_all, encode_edges}
use Rattle.model.specs.tables.Tables.{EdgeTable, all, rises_from, IsStrictlySorted, key_of, edges_fit, WFEdges}
use Rattle.model.specs.translation.PrefixSet.{pair, Begins, ApplyPrefixSet}
use Rattle.model.specs.translation.PairState.{not_pair, pair_of, state_with, state_of}
use Rattle.model.specs.translation.PairRecord.{state_at, wrong_pair, encode_state, encode_pair}
use Rattle.model.specs.translation.Renaming.{TranslateElement}
use Rattle.model.specs.buckets.Bucket.{number_size, entry_size}
use Rattle.model.specs.calls.Refusals.{outcome, answer_number, told, decided_answer}
use Rattle.model.specs.calls.KeyCalls.{compare_answer, pivot_key_answer, entry_key_answer, entry_key_part}
use Rattle.model.specs.calls.TableCalls.{not_pivot_count, not_edge_count, pivots_read, edges_read, pivot_causes, table_causes, wf_edges_answer}
use Rattle.model.specs.calls.PairCalls.{apply_answer}
use Rattle.model.specs.calls.PairRecordCalls.{apply_pair_answer}
use Rattle.model.specs.calls.BucketCalls.{not_entry_count, not_entry_count_by}
use Rattle.model.specs.Rows.{pivots_t, edges_t}

-- ---- refusals

-- in the order of the table "Refusals", and then 11 to 15
abbrev pub refusals : List Refusal
refusals =
    Shape ∷ Malformed ∷ Unsorted ∷ EmptyPrefix ∷ OutOfRange ∷ NoSuchSlot ∷ NotPrefix ∷ TooLong ∷ NotBelow ∷ NoRoom ∷
    AlreadyPivot ∷ TooManyPivots ∷ NotMeeting ∷ EntriesUnsorted ∷ WrongIndex ∷ []

abbrev pub one_to_fifteen : List ℕ
one_to_fifteen = 1 ∷ 2 ∷ 3 ∷ 4 ∷ 5 ∷ 6 ∷ 7 ∷ 8 ∷ 9 ∷ 10 ∷ 11 ∷ 12 ∷ 13 ∷ 14 ∷ 15 ∷ []

-- each is answered by its number, whatever else the call answers, and an accepted call by 0
pub numbers : (A : Type 0) (x : A) → (map (λ (r : Refusal). answer_number {A = A} (Err r)) refusals ≡ one_to_fifteen) × (answer_number (Ok x) ≡ 0)
unfolding answer_number
numbers A x = (refl, refl)

-- a refused call leaves what stands behind the pointer as it was, an accepted one tells its own
pub tells : (A : Type 0) (r : Refusal) (x old : A) → (told (Err r) old ≡ old) × (told (Ok x) old ≡ x)
unfolding told
tells A r x old = (refl, refl)

-- yes is told as 1 and no as 0
pub tells_answers : (decided_answer (Ok true) ≡ Ok 1) × (decided_answer (Ok false) ≡ Ok 0)
unfolding decided_answer
tells_answers = (refl, refl)

-- ---- records

abbrev pub record_a : List ℕ
record_a = encode (key (0x41 ∷ []))

-- a length field of 65
abbrev pub malformed : List ℕ
malformed = record_of 65 []

-- either record of a comparison must be one and read as an element
pub compared_records : (compare_answer record_a malformed ≡ Err Malformed) × (compare_answer malformed record_a ≡ Err Malformed)
    × (compare_answer record_a (encode_edge no_edge) ≡ Err Malformed) × (compare_answer record_a (record_a ++ 0 ∷ []) ≡ Err Shape) × (compare_answer [] record_a ≡ Err Shape)
    × (compare_answer record_a (encode max) ≡ Ok (negsuc 0)) × (compare_answer (encode max) record_a ≡ Ok (pos 1)) × (compare_answer (encode max) (encode max) ≡ Ok (pos 0))
unfolding outcome encode encode_edge record_of reading field_reading length_field all_zero element key_bytes cmp lte lte_key
compared_records = (refl, refl, refl, refl, refl, refl, refl, refl)

-- neither a pivot that is max nor an entry with a mark in place of its key has a key
pub keys_of_records : (pivot_key_answer record_a ≡ Ok 1) × (pivot_key_answer (encode max) ≡ Err Malformed) × (entry_key_answer (record_a ++ zeros number_size) ≡ Ok 1) × (entry_key_part (record_a ++ zeros number_size) ≡ 0x41 ∷ [])
    × (entry_key_answer (encode max ++ zeros number_size) ≡ Err Malformed) × (entry_key_part (encode max ++ zeros number_size) ≡ []) × (entry_key_answer (encode_edge no_edge ++ zeros number_size) ≡ Err Malformed) × (entry_key_answer record_a ≡ Err Shape)
unfolding outcome encode encode_edge record_of reading field_reading length_field all_zero key_bytes
keys_of_records = (refl, refl, refl, refl, refl, refl, refl, refl)

-- ---- max, which no prefix begins: it stays under another prefix, and has no byte of a key
pub max_stays : (p q : Key) → (TranslateElement p q max ≡ max) × (key_of max ≡ [])
unfolding TranslateElement
max_stays p q = (refl, refl)

-- ---- counts and lengths

-- a bucket has at most 512 entries, of 70 bytes each
pub most_entries : (l : List ℕ) → (entry_size ≡ 70) × (length l ≡ 512 * entry_size → not_entry_count l ≡ false) × (length l ≡ 513 * entry_size → not_entry_count l ≡ true)
unfolding not_entry_count_by
most_entries l = (refl, λ h. rw h, λ h. rw h)

-- T with one edge, or with three, is 1 and not 4
abbrev pub edges_of_t : EdgeTable → Result Bool Refusal
edges_of_t et = wf_edges_answer (encode_all pivots_t) (encode_edges et)

pub edges_of-T : (edges_of_t edges_t ≡ Ok true) × (edges_of_t (edge (0x43 ∷ []) ∷ []) ≡ Err Shape) × (edges_of_t (no_edge ∷ edges_t) ≡ Err Shape)
unfolding outcome table_causes pivot_causes not_pivot_count not_edge_count pivots_read edges_read records pieces elements edges encode_all encode_edges encode encode_edge record_of joined reading field_reading length_field all_zero element edge_of key_bytes IsStrictlySorted rises_from lte lte_key all WFEdges edges_fit PivotLcp lcp lcpright
edges_of-T = (refl, refl, refl)

-- a pair is applied to a key of 64 bytes, and one of 65 is 2
pub longest_applied : (apply_answer (state_of (pair (0x41 ∷ []) (0x43 ∷ []))) (0x41 ∷ zeros 63) (zeros 64) ≡ Ok 64) × (apply_answer (state_of (pair (0x41 ∷ []) (0x43 ∷ []))) (0x41 ∷ zeros 64) [] ≡ Err Malformed)
    × (apply_pair_answer (encode_pair (pair (0x41 ∷ []) (0x43 ∷ []))) (0x41 ∷ zeros 63) (zeros 64) ≡ Ok 64) × (apply_pair_answer (encode_pair (pair (0x41 ∷ []) (0x43 ∷ []))) (0x41 ∷ zeros 64) [] ≡ Err Malformed)
unfolding outcome state_of state_with not_pair pair_of state_at wrong_pair encode_state length_field Begins IsPrefix ApplyPrefixSet change_prefix
longest_applied = (refl, refl, refl, refl)
