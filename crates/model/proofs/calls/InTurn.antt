-- Each call lists its causes in the one order, so that "the first in the order" is the first of its list.
use mathlib.Core.Path.{◌≡◌, refl}
use mathlib.Core.Bool.{Bool, true, false}
use mathlib.Core.List.{List, [], ◌∷◌}
use Prim.Native.Nat.{ℕ, ◌+◌}
use Rattle.model.specs.declared.Refusal.TheVariants.{Shape, EmptyPrefix, NotMeeting, EntriesUnsorted, OutOfRange, AlreadyPivot, TooManyPivots, WrongIndex, NoSuchSlot, NotPrefix, TooLong, NotBelow, NoRoom}
use Rattle.model.specs.calls.Refusals.{◌⇒◌, turn, paired, in_turn}
use Rattle.model.specs.calls.KeyCalls.{compare_causes, pivot_key_causes, entry_key_causes, change_prefix_causes, pivot_lcp_causes, uncommon_prefix_causes}
use Rattle.model.specs.calls.TableCalls.{pivot_causes, table_causes, contains_range_causes, get_key_causes, init_pivot_table_causes, slot_causes}
use Rattle.model.specs.calls.CutCalls.{cut_causes}
use Rattle.model.specs.calls.InsertionCalls.{insert_causes}
use Rattle.model.specs.calls.JoinCalls.{join_causes}
use Rattle.model.specs.translation.PairState.{PairState}
use Rattle.model.specs.calls.PairCalls.{reverse_causes, apply_causes, compose_causes}
use Rattle.model.specs.calls.TranslationCalls.{translate_causes, translate_key_causes}
use Rattle.model.specs.calls.PairRecordCalls.{reverse_pair_causes, apply_pair_causes, compose_pairs_causes, translate_pair_causes}
use Rattle.model.specs.calls.RenamingCalls.{pivot_pair_causes, pivots_causes, edges_causes}
use Rattle.model.specs.calls.ParentChildCalls.{parent_child_causes}
use Rattle.model.specs.calls.BucketCalls.{bucket_causes, translate_bucket_causes}
use Rattle.model.specs.calls.IndexCalls.{entries_causes, given_causes, build_index_causes, slot_entries_causes, cut_index_causes, translate_index_causes}
use Rattle.model.specs.list.ShelfList.{list_causes, list_table_causes}

-- "after 4", "directly after 5", "directly after 11", "after 5", and the others as they were
pub directly_after : (turn EmptyPrefix + 1 ≡ turn NotMeeting) × (turn NotMeeting + 1 ≡ turn EntriesUnsorted) × (turn EntriesUnsorted + 1 ≡ turn OutOfRange) × (turn OutOfRange + 1 ≡ turn AlreadyPivot) × (turn AlreadyPivot + 1 ≡ turn TooManyPivots) × (turn TooManyPivots + 1 ≡ turn WrongIndex)
    × (turn WrongIndex + 1 ≡ turn NoSuchSlot) × (turn NoSuchSlot + 1 ≡ turn NotPrefix) × (turn NotPrefix + 1 ≡ turn TooLong) × (turn TooLong + 1 ≡ turn NotBelow) × (turn NotBelow + 1 ≡ turn NoRoom)
directly_after = (refl, refl, refl, refl, refl, refl, refl, refl, refl, refl, refl)

-- each cause is held to the one before it: NoRoom before TooLong is out of turn, though both come after Shape
pub out_of_turn : (t u v : Bool) → (in_turn 0 ((t ⇒ Shape) ∷ (u ⇒ TooLong) ∷ (v ⇒ NoRoom) ∷ []) ≡ true) × (in_turn 0 ((t ⇒ Shape) ∷ (u ⇒ NoRoom) ∷ (v ⇒ TooLong) ∷ []) ≡ false)
out_of_turn t u v = (refl, refl)

module _ (a b c d e : List ℕ) where
  -- keys and records
  pub keys_in_turn : (in_turn 0 (compare_causes a b) ≡ true) × (in_turn 0 (pivot_key_causes a) ≡ true) × (in_turn 0 (entry_key_causes a) ≡ true)
      × (in_turn 0 (change_prefix_causes a b c d) ≡ true) × (in_turn 0 (pivot_lcp_causes a b) ≡ true) × (in_turn 0 (uncommon_prefix_causes a b) ≡ true)
  keys_in_turn = (refl, refl, refl, refl, refl, refl)

  -- tables; a check or a question that lists no more has the causes of pivots, or of a table
  pub tables_in_turn : (t u : Bool) (i : ℕ) → (in_turn 0 (pivot_causes t u a) ≡ true) × (in_turn 0 (table_causes t u a b) ≡ true) × (in_turn 0 (contains_range_causes a b c) ≡ true)
      × (in_turn 0 (get_key_causes a i) ≡ true) × (in_turn 0 (init_pivot_table_causes a) ≡ true) × (in_turn 0 (slot_causes a b t) ≡ true)
  unfolding pivot_causes table_causes
  tables_in_turn t u i = (refl, refl, refl, refl, refl, refl)

  -- cuts, insertion and translation
  pub cuts_in_turn : (left : Bool) → (in_turn 0 (cut_causes left a b c d e) ≡ true) × (in_turn 0 (insert_causes a b c d e) ≡ true) × (in_turn 0 (translate_key_causes a b c d) ≡ true)
  unfolding pivot_causes table_causes
  cuts_in_turn left = (refl, refl, refl)

  -- two tables put together
  pub join_in_turn : (f : List ℕ) → in_turn 0 (join_causes a b c d e f) ≡ true
  unfolding paired pivot_causes table_causes
  join_in_turn f = refl

  -- pairs by value
  pub states_in_turn : (s t : PairState) → (in_turn 0 (reverse_causes s) ≡ true) × (in_turn 0 (apply_causes s a b) ≡ true) × (in_turn 0 (compose_causes s t) ≡ true) × (in_turn 0 (translate_causes a b c) ≡ true)
  unfolding pivot_causes table_causes
  states_in_turn s t = (refl, refl, refl, refl)

  -- pairs as records
  pub pairs_in_turn : (in_turn 0 (reverse_pair_causes a b) ≡ true) × (in_turn 0 (apply_pair_causes a b c) ≡ true) × (in_turn 0 (compose_pairs_causes a b c) ≡ true)
      × (in_turn 0 (translate_pair_causes a b c d) ≡ true)
  unfolding pivot_causes table_causes
  pairs_in_turn = (refl, refl, refl, refl)

  -- renamed ranges, tables and buckets, parent and child, the list
  pub others_in_turn : (i : ℕ) → (in_turn 0 (pivot_pair_causes a b c d e) ≡ true) × (in_turn 0 (pivots_causes a b c d e) ≡ true) × (in_turn 0 (edges_causes a b c) ≡ true)
      × (in_turn 0 (parent_child_causes a b c i) ≡ true) × (in_turn 0 (translate_bucket_causes a b c d) ≡ true) × (in_turn 0 (list_causes a) ≡ true)
      × (in_turn 0 (list_table_causes a b) ≡ true)
  unfolding pivot_causes table_causes bucket_causes list_causes
  others_in_turn i = (refl, refl, refl, refl, refl, refl, refl)

  -- a bucket with its index; the check lists no more than the given index has
  pub index_in_turn : (left t u : Bool) (i : ℕ) (f g : List ℕ) → (in_turn 0 (build_index_causes a b c) ≡ true) × (in_turn 0 (given_causes t u a b c) ≡ true) × (in_turn 0 (slot_entries_causes a b c i) ≡ true)
      × (in_turn 0 (cut_index_causes left a b c d e f) ≡ true) × (in_turn 0 (translate_index_causes a b c d e f g) ≡ true)
  unfolding paired pivot_causes bucket_causes entries_causes given_causes
  index_in_turn left t u i f g = (refl, refl, refl, refl, refl)
