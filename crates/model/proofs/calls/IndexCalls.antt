-- An index by its bytes: which one the check accepts, what build leaves, and the parts of the slots.
use Rattle.std.specs.Prelude.{Ok, Err}
use mathlib.Core.Path.{◌≡◌, refl, sym, ap, ◌∙◌}
use mathlib.Core.Bool.{Bool, true, false, cond}
use mathlib.Core.List.{List, [], ◌∷◌}
use mathlib.Core.Option.{none, some}
use Prim.Native.Nat.{ℕ, zero, suc, ◌+◌, ◌*◌, ◌≤◌, ◌<◌}
use native.Mathlib.Omega.{arith}
use borrow.Author.Tests.{le-ltb, lt-ltb, ltb-true, not-false}
use lib.Dec.{eqb}
use lib.ListN.{length, take}
use Rattle.model.specs.declared.Refusal.{Refusal}
use Rattle.model.specs.declared.Refusal.TheVariants.{NoSuchSlot, NoRoom}
use Rattle.model.specs.keys.Key.{Bytes}
use Rattle.model.specs.records.Record.{joined, elements}
use Rattle.model.specs.tables.Tables.{NumBuckets, all, Route}
use Rattle.model.specs.buckets.Bucket.{Entry, entry_size, entries, encode_bucket, sized_entry}
use Rattle.model.specs.buckets.Index.{only, Index, place_at, slot_entries, slots_from, slot_buckets, together, place_size, places}
use Rattle.model.specs.calls.Refusals.{outcome, first}
use Rattle.model.specs.calls.KeyCalls.{no_room}
use Rattle.model.specs.calls.IndexCalls.{entries_causes, index_bytes, given_causes, build_index_causes, build_index_answer, build_index_leaves}
use Rattle.model.specs.calls.IndexCalls.{check_index_answer, slot_entries_causes, slot_entries_answer, slot_entries_part}
use Rattle.model.proofs.tables.Routing.{wf_sorted, wf_count}
use Rattle.model.proofs.buckets.Entries.{encode_append, length-encode_bucket, entries-encode_bucket}
use Rattle.model.proofs.buckets.IndexBytes.{length-encode_index, places-encode_index, index_count}
use Rattle.model.proofs.buckets.Index.{index_first, index_last, index_rises, slot_all, slot_routed, slot_empty}
use Rattle.model.proofs.buckets.SlotBuckets.{slots_together}
use Rattle.model.proofs.calls.Refusals.{after, passed, accepted, value_is, none_here, none_before, none_after}
use Rattle.model.proofs.calls.RenamingCalls.{wrote}
use Rattle.model.proofs.calls.BucketCalls.{bucket_encode, bucket_sized}
use Rattle.model.proofs.calls.IndexCauses.{entries_wf, entries_bucket, entries_rise_lem, entries_inside_lem, bytes_same, given_entries, given_index, given_length}

-- ---- the check, and what build writes

-- where pivots and bucket have none of the causes before, neither has their own index
pub none_given : (wrong outside : Bool) (p l x : List ℕ) → first (entries_causes wrong outside p l) ≡ none → x ≡ index_bytes p l → first (given_causes wrong outside p l x) ≡ none
unfolding given_causes outcome
none_given wrong outside p l x h e = sym (after some none none (entries_causes wrong outside p l) _ h (rw (bytes_same x (index_bytes p l) e)))

-- the index that belongs to them has two bytes for each pivot
pub index_length : (p l : List ℕ) → length (index_bytes p l) ≡ length (elements p) * place_size
index_length p l = rw (length-encode_index, index_count)

-- an accepted check
module _ (p l x : List ℕ) (m : ℕ) (h : check_index_answer p l x ≡ Ok m) where
  -- found none of the causes
  pub check_none : first (given_causes false false p l x) ≡ none
  check_none = accepted (given_causes false false p l x) (length (entries l)) (check_index_answer p l x) refl m h

  -- and answers the total
  pub check_answers : m ≡ length (entries l)
  check_answers = value_is (given_causes false false p l x) (length (entries l)) (check_index_answer p l x) refl m h

-- an accepted build
module _ (p l d : List ℕ) (m : ℕ) (h : build_index_answer p l d ≡ Ok m) where
  built : first (build_index_causes p l d) ≡ none
  built = accepted (build_index_causes p l d) (length (entries l)) (build_index_answer p l d) refl m h

  -- found none of the causes of pivots and bucket
  pub build_none : first (entries_causes false false p l) ≡ none
  build_none = none_before (entries_causes false false p l) _ built

  -- and answers the total
  pub build_answers : m ≡ length (entries l)
  build_answers = value_is (build_index_causes p l d) (length (entries l)) (build_index_answer p l d) refl m h

  -- build writes the index of the table and the bucket
  pub build_writes : take (length (elements p) * place_size) (build_index_leaves p l d) ≡ index_bytes p l
  build_writes = wrote (build_index_causes p l d) (index_bytes p l) d (length (elements p) * place_size) built (index_length p l)

-- pivots, bucket and index of which that holds are accepted
pub check_accepts : (p l x : List ℕ) → first (entries_causes false false p l) ≡ none → x ≡ index_bytes p l → check_index_answer p l x ≡ Ok (length (entries l))
check_accepts p l x h e = sym (passed Err _ _ (given_causes false false p l x) (none_given false false p l x h e) refl)

-- the check accepts an index where, and only where, it is the one that build writes
pub check_is_built : (p l d : List ℕ) (m : ℕ) → build_index_answer p l d ≡ Ok m → (x : List ℕ)
    → (check_index_answer p l x ≡ Ok m → x ≡ take (length (elements p) * place_size) (build_index_leaves p l d))
    × (x ≡ take (length (elements p) * place_size) (build_index_leaves p l d) → check_index_answer p l x ≡ Ok m)
check_is_built p l d m h x =
    let w = build_writes p l d m h in
    let n = build_answers p l d m h in (
      λ c. given_index false false p l x (check_none p l x m c) ∙ sym w,
      λ e. rw n (check_accepts p l x (build_none p l d m h) (e ∙ w)),
    )

-- where an index is accepted, build is too, with as much room, and answers the same
pub checked_builds : (p l x : List ℕ) (m : ℕ) → check_index_answer p l x ≡ Ok m → (d : List ℕ) → length x ≤ length d → build_index_answer p l d ≡ Ok m
unfolding outcome
checked_builds p l x m h d r =
    let c = check_none p l x m h in
    let e = given_length false false p l x c in
    let z = le-ltb (length d) (length (elements p) * place_size) (omega arith) in
    rw (check_answers p l x m h) (sym (after Err _ _ (entries_causes false false p l) _ (given_entries false false p l x c) (rw z)))

-- an index that is accepted is what build leaves
pub checked_is_built : (p l x : List ℕ) (m : ℕ) → check_index_answer p l x ≡ Ok m → (d : List ℕ) → length x ≤ length d → take (length x) (build_index_leaves p l d) ≡ x
checked_is_built p l x m h d r =
    let n = given_length false false p l x (check_none p l x m h) in
    rw n (sym ((check_is_built p l d m (checked_builds p l x m h d r) x).0 h))

-- where pivots and bucket are accepted, build answers 10 if the destination is shorter than what is written, and else the total
pub build_by_room : (p l d : List ℕ) → first (entries_causes false false p l) ≡ none
    → build_index_answer p l d ≡ cond (no_room (length (index_bytes p l)) d) (Err NoRoom) (Ok (length (entries l)))
unfolding outcome
build_by_room p l d h = sym (after Err _ _ (entries_causes false false p l) _ h (rw (index_length p l)))

-- ---- what an index says

-- of pivots p and the bucket l, with the total m: it begins with 0, ends with the total and rises, weakly
pub record Indexes (p l : List ℕ) (m : ℕ) (x : List ℕ) : Type 0 where
  pub count : length (places x) ≡ length (elements p)
  pub begins : place_at (places x) 0 ≡ 0
  pub ends : place_at (places x) (NumBuckets (elements p)) ≡ m
  pub rises : (i j : ℕ) → i ≤ j → j < length (elements p) → place_at (places x) i ≤ place_at (places x) j
  pub total : m ≡ length (entries l)
  -- a slot to which no entry is routed has the place where the next begins
  pub empty : (i : ℕ) → i < NumBuckets (elements p) → only (λ (e : Entry). eqb (Route (elements p) e.key) i) (entries l) ≡ [] → place_at (places x) i ≡ place_at (places x) (i + 1)

indexes_of : (p l x : List ℕ) (m : ℕ) → first (entries_causes false false p l) ≡ none → m ≡ length (entries l) → x ≡ index_bytes p l → Indexes p l m x
indexes_of p l x m h t e =
    let w = entries_wf false false p l h in
    let i = entries_inside_lem false false p l h in
    let n : 0 < length (elements p) = omega (arith, wf_count (elements p) w) in
    let r : places x ≡ Index (elements p) (entries l) = rw e (places-encode_index (Index (elements p) (entries l))) in
    record {
      count = rw r (index_count (elements p) (entries l));
      begins = rw r (index_first (elements p) (entries l) i n);
      ends = rw r (index_last (elements p) (entries l) i n ∙ sym t);
      rises = rw r (index_rises (elements p) (entries l) (wf_sorted (elements p) w));
      total = t;
      empty = rw r (slot_empty (elements p) (entries l) i w (entries_rise_lem false false p l h));
    }

-- what build leaves is such an index
pub build_leaves : (p l d : List ℕ) (m : ℕ) → build_index_answer p l d ≡ Ok m → Indexes p l m (take (length (elements p) * place_size) (build_index_leaves p l d))
build_leaves p l d m h = indexes_of p l _ m (build_none p l d m h) (build_answers p l d m h) (build_writes p l d m h)

-- an index that the check accepts says the same, and its last place is what the check answers
pub check_indexes : (p l x : List ℕ) (m : ℕ) → check_index_answer p l x ≡ Ok m → Indexes p l m x
check_indexes p l x m h =
    let g = check_none p l x m h in
    indexes_of p l x m (given_entries false false p l x g) (check_answers p l x m h) (given_index false false p l x g)

-- ---- the slots' parts

module _ (p l x : List ℕ) where
  -- of a slot that there is
  pub part_is : first (given_causes false false p l x) ≡ none → (i : ℕ) → i < NumBuckets (elements p) → slot_entries_part p l x i ≡ encode_bucket (slot_entries (elements p) (entries l) i)
  unfolding outcome
  part_is h i k = sym (after (λ (_ : Refusal). []) _ _ (given_causes false false p l x) _ h (rw (lt-ltb i (NumBuckets (elements p)) k)))

  module _ (i m : ℕ) (h : slot_entries_answer p l x i ≡ Ok m) where
    none_slot : first (slot_entries_causes p l x i) ≡ none
    none_slot = accepted (slot_entries_causes p l x i) (length (slot_entries (elements p) (entries l) i)) (slot_entries_answer p l x i) refl m h

    given : first (given_causes false false p l x) ≡ none
    given = none_before (given_causes false false p l x) _ none_slot

    checked : first (entries_causes false false p l) ≡ none
    checked = given_entries false false p l x given

    -- the slot is one of the table
    pub part_inside : i < NumBuckets (elements p)
    part_inside = ltb-true i (NumBuckets (elements p)) (not-false _ (none_here _ NoSuchSlot [] (none_after (given_causes false false p l x) _ none_slot)))

    sized : all sized_entry (slot_entries (elements p) (entries l) i) ≡ true
    sized = slot_all (elements p) (entries l) sized_entry (bucket_sized false l (entries_bucket false false p l checked)) i

    -- the part handed back holds the entries that Route sends to the slot, in order
    pub part_routed : entries (slot_entries_part p l x i) ≡ only (λ (e : Entry). eqb (Route (elements p) e.key) i) (entries l)
    part_routed =
        rw (part_is given i part_inside)
        (entries-encode_bucket (slot_entries (elements p) (entries l) i) sized
        ∙ slot_routed (elements p) (entries l) (entries_inside_lem false false p l checked) (entries_wf false false p l checked) (entries_rise_lem false false p l checked) i part_inside)

    -- as many as answered
    pub part_length : length (slot_entries_part p l x i) ≡ m * entry_size
    part_length =
        let n = value_is (slot_entries_causes p l x i) (length (slot_entries (elements p) (entries l) i)) (slot_entries_answer p l x i) refl m h in
        rw (part_is given i part_inside, n) (length-encode_bucket (slot_entries (elements p) (entries l) i) sized)

  -- those of n slots, from slot i on
  unfoldable pub slot_parts : ℕ → ℕ → List (List ℕ)
  slot_parts i zero = []
  slot_parts i (suc n) = slot_entries_part p l x i ∷ slot_parts (suc i) n

  parts_encode : first (given_causes false false p l x) ≡ none → (i n : ℕ) → i + n ≤ NumBuckets (elements p)
      → joined (slot_parts i n) ≡ encode_bucket (together (slots_from (elements p) (entries l) i n))
  unfolding slot_parts together slots_from joined
  parts_encode h i zero k = unfold encode_bucket in refl
  parts_encode h i (suc n) k =
      rw (encode_append (slot_entries (elements p) (entries l) i) (together (slots_from (elements p) (entries l) (suc i) n)), part_is h i (omega arith), parts_encode h (suc i) n (omega arith))

  -- the parts of all slots, one after the other, are the bucket, byte for byte
  pub parts_joined : (m : ℕ) → check_index_answer p l x ≡ Ok m → Bytes l → joined (slot_parts 0 (NumBuckets (elements p))) ≡ l
  parts_joined m h b =
      let g = check_none p l x m h in
      let c = given_entries false false p l x g in
      let w = entries_wf false false p l c in
      let s = slots_together (elements p) (entries l) (wf_sorted (elements p) w) (omega (arith, wf_count (elements p) w)) (entries_inside_lem false false p l c) in
      let t : together (slots_from (elements p) (entries l) 0 (NumBuckets (elements p))) ≡ entries l = unfold slot_buckets in s in
      parts_encode g 0 (NumBuckets (elements p)) (omega arith) ∙ ap encode_bucket t ∙ bucket_encode false l (entries_bucket false false p l c) b
