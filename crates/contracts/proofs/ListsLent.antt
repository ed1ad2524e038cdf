-- Lists of buckets: what a lent bucket and index hold, what the calls on them leave, and when they refuse.
use Rattle.std.specs.Prelude.{Ok, Err}
use mathlib.Core.Path.{◌≡◌, refl, sym, ap, ◌∙◌}
use mathlib.Core.Bool.{Bool, true, false, not, ◌&&◌, ◌||◌, true≢false}
use mathlib.Core.List.{List, [], ◌∷◌, ◌++◌}
use mathlib.Core.Logic.{◌⊎◌, ⊎_elim}
use mathlib.Core.Option.{none}
use Prim.Native.Nat.{ℕ, zero, suc, ◌+◌, ◌*◌, ◌≤◌, ◌<◌}
use native.Mathlib.Omega.{arith}
use borrow.Author.Tests.{not-false, ltb-false, lt-ltb, le-ltb}
use lib.ListN.{length, take, drop, get_or}
use lib.Seq.{take-append_seam, drop-append_seam, take_at, drop_at}
use Rattle.model.specs.declared.Refusal.TheVariants.{Shape, Malformed, OutOfRange, TooLong, NoRoom, EntriesUnsorted, WrongIndex}
use Rattle.model.specs.keys.Key.{Key, too_long}
use Rattle.model.specs.keys.Order.{key, lte_key, lte}
use Rattle.model.specs.records.Record.{length_field, all_zero, field_reading, reading, key_bytes, element, record_of, encode, pieces, joined, records, elements, encode_all}
use Rattle.model.specs.tables.Tables.{max_pivots, NumBuckets, all, rises_from, IsStrictlySorted}
use Rattle.model.specs.buckets.Bucket.{Bucket, entry_size, entry_bytes, entry_bytes_by, entries, entry_of, encode_entry, encode_bucket, entries_rise, TranslateBucket, TranslateBuckets}
use Rattle.model.specs.buckets.Index.{only, entries_below, Index, slot_entries, slots_from, slot_buckets, together, places_from, place_size, encode_place, encode_index, places}
use Rattle.model.specs.calls.Refusals.{Cause, ◌⇒◌, outcome, paired, first, answer}
use Rattle.model.specs.calls.KeyCalls.{no_room}
use Rattle.model.specs.calls.TableCalls.{not_pivot_count, pivots_read, pivot_causes}
use Rattle.model.specs.calls.BucketCalls.{not_entry_count, not_entry_count_by, entries_read, bucket_causes, new_bucket, needed_bytes, bucket_long, bucket_full, short_entry, rename_causes, translate_bucket_causes, translate_bucket_answer, will_fit_answer}
use Rattle.model.specs.calls.IndexCalls.{entries_causes, index_bytes, wrong_index, given_causes}
use Rattle.model.specs.calls.IndexCalls.{translate_index_causes, translate_index_answer}
use Rattle.model.proofs.IndexRows.{entry_a, entry_b}
use Rattle.model.proofs.Lists.{all_append}
use Rattle.model.proofs.keys.Key.{both}
use Rattle.model.proofs.keys.Order.{refuted}
use Rattle.model.proofs.tables.Routing.{wf_sorted, wf_count}
use Rattle.model.proofs.buckets.IndexBytes.{places-encode_index, index_count}
use Rattle.model.proofs.buckets.Index.{index_first, index_last, index_rises}
use Rattle.model.proofs.buckets.SlotBuckets.{slots_count, slots_together, slots_places, renamed_together}
use Rattle.model.proofs.calls.Refusals.{accepted, none_here, none_later, none_before, none_after, not_fails, or_left, or_right}
use Rattle.model.proofs.calls.BucketCalls.{yes_accepted}
use Rattle.model.proofs.calls.IndexCauses.{entries_wf, entries_bucket, entries_rise_lem, entries_inside_lem, given_entries, given_index, same_bytes}
use Rattle.contracts.specs.Refuses.{RefusesAt, Refuses}
use Rattle.contracts.specs.BucketLists.{TranslateBucketsWillFit, Inv, ILseq, InvLseq}
use Rattle.contracts.proofs.Refusing.{refuses_at, refuses_unless, clause_refused, more_refused, call_refuses, too_many}
use Rattle.contracts.proofs.Lent.{go_on}

-- ---- a lent list

-- pivots and a bucket without the causes 1, 2, 3, 14 and 5
module _ (wrong outside : Bool) (p l : List ℕ) (h : first (entries_causes wrong outside p l) ≡ none) where
  -- the pivots rise
  pub sorted : IsStrictlySorted (elements p) ≡ true
  sorted = wf_sorted (elements p) (entries_wf wrong outside p l h)

  -- and there is one
  pub some_pivot : 0 < length (elements p)
  some_pivot = omega (arith, wf_count (elements p) (entries_wf wrong outside p l h))

  -- the bucket and the index that belongs to it hold the slots' buckets
  pub list_held : (x : List ℕ) → x ≡ index_bytes p l → ILseq l x (slot_buckets (elements p) (entries l))
  list_held x e =
      let i = entries_inside_lem wrong outside p l h in
      record {
        bucket = sym (slots_together (elements p) (entries l) sorted some_pivot i);
        index = rw (slots_places (elements p) (entries l) sorted some_pivot i) e;
      }

  -- the bucket's entries rise, and the index that belongs to it has a place for each slot and the total, rising from 0 on
  pub list_sound : (x : List ℕ) → x ≡ index_bytes p l → InvLseq l x (length (slot_buckets (elements p) (entries l)))
  list_sound x e =
      let i = entries_inside_lem wrong outside p l h in
      let n : length (slot_buckets (elements p) (entries l)) ≡ NumBuckets (elements p) = slots_count (elements p) (entries l) in
      let r : places x ≡ Index (elements p) (entries l) = rw e (places-encode_index (Index (elements p) (entries l))) in
      record {
        bucket = entries_bucket wrong outside p l h;
        rises = entries_rise_lem wrong outside p l h;
        count = rw (r, n) (index_count (elements p) (entries l) ∙ omega (arith, some_pivot));
        begins = rw r (index_first (elements p) (entries l) i some_pivot);
        ends = rw (r, n) (index_last (elements p) (entries l) i some_pivot);
        climbs = rw (r, n) (λ a c u v. index_rises (elements p) (entries l) sorted a c u (omega (arith, some_pivot)));
      }

-- ---- the list that bytes hold

places_count : (n : ℕ) (blist : List Bucket) → length (places_from n blist) ≡ length blist + 1
unfolding places_from
places_count n [] = omega arith
places_count n (b ∷ blist) = omega (arith, places_count (n + length b) blist)

places_head : (n : ℕ) (blist : List Bucket) → get_or (places_from n blist) 0 0 ≡ n
unfolding places_from
places_head n [] = refl
places_head n (b ∷ blist) = refl

-- buckets that are the same together and begin at the same places are the same
same_list : (m n : ℕ) (a c : List Bucket) → places_from m a ≡ places_from n c → together a ≡ together c → a ≡ c
unfolding places_from together
same_list m n [] [] g h = refl
same_list m n [] (y ∷ c) g h = absurd (omega (arith, ap length g, places_count (n + length y) c))
same_list m n (x ∷ a) [] g h = absurd (omega (arith, ap length g, places_count (m + length x) a))
same_list m n (x ∷ a) (y ∷ c) g h =
    let u = ap (λ (ns : List ℕ). get_or ns 0 0) g in
    let t = ap (drop 1) g in
    let v : m + length x ≡ n + length y = sym (places_head (m + length x) a) ∙ ap (λ (ns : List ℕ). get_or ns 0 0) t ∙ places_head (n + length y) c in
    let k : length y ≡ length x = omega arith in
    let e : x ≡ y = sym (take-append_seam x (together a)) ∙ ap (take (length x)) h ∙ take_at y (together c) (length x) k in
    let f : together a ≡ together c = sym (drop-append_seam x (together a)) ∙ ap (drop (length x)) h ∙ drop_at y (together c) (length x) k in
    rw (e, same_list (m + length x) (n + length y) a c t f)

-- a bucket and an index hold one list at most
pub list_one : (l x : List ℕ) (a c : List Bucket) → ILseq l x a → ILseq l x c → a ≡ c
list_one l x a c u v =
    same_list 0 0 a c (sym (places-encode_index (places_from 0 a)) ∙ ap places (sym u.index ∙ v.index) ∙ places-encode_index (places_from 0 c)) (sym u.bucket ∙ v.bucket)

-- ---- Inv of a bucket

by_flags : (a b : Bool) → ((not a && b) ≡ true → first ((a ⇒ Shape) ∷ (not b ⇒ Malformed) ∷ []) ≡ none)
    × (first ((a ⇒ Shape) ∷ (not b ⇒ Malformed) ∷ []) ≡ none → (not a && b) ≡ true)
unfolding outcome
by_flags true b = (λ h. absurd (true≢false (sym h)), λ h. absurd (true≢false (none_here true Shape ((not b ⇒ Malformed) ∷ []) h)))
by_flags false true = (λ h. refl, λ h. refl)
by_flags false false = (λ h. absurd (true≢false (sym h)), λ h. absurd (true≢false (none_here true Malformed [] h)))

-- it is that neither cause 1 nor cause 2 of a bucket applies, and no more
pub inv_is : (l : List ℕ) → (Inv l ≡ true → first (bucket_causes false l) ≡ none) × (first (bucket_causes false l) ≡ none → Inv l ≡ true)
unfolding bucket_causes
inv_is l = by_flags (not_entry_count l) (entries_read (entry_bytes l))

-- ---- refusals of a call with a given index

module _ (wrong outside : Bool) (p l x : List ℕ) (ds : List Cause) (v : ℕ) where
  -- the bucket isn't one whose entries rise, or the index has no place for each slot and the total, rising from 0 on
  pub list_unsound : (InvLseq l x (length (slot_buckets (elements p) (entries l))) → ⊥)
      → RefusesAt Err (given_causes wrong outside p l x ++ ds) 7 WrongIndex (answer (given_causes wrong outside p l x ++ ds) v)
  unfolding given_causes entries_causes paired pivot_causes bucket_causes
  list_unsound f =
      refuses_unless Err _ (given_causes wrong outside p l x ++ ds) 7 (wrong_index p l x) WrongIndex ds refl
      (λ h. not_fails _ (refuted _ (λ t. f (list_sound wrong outside p l h x (same_bytes x (index_bytes p l) t)))))

  -- bucket and index don't hold the slots' buckets
  pub list_refused : (ILseq l x (slot_buckets (elements p) (entries l)) → ⊥)
      → RefusesAt Err (given_causes wrong outside p l x ++ ds) 7 WrongIndex (answer (given_causes wrong outside p l x ++ ds) v)
  unfolding given_causes entries_causes paired pivot_causes bucket_causes
  list_refused f =
      refuses_unless Err _ (given_causes wrong outside p l x ++ ds) 7 (wrong_index p l x) WrongIndex ds refl
      (λ h. not_fails _ (refuted _ (λ t. f (list_held wrong outside p l h x (same_bytes x (index_bytes p l) t)))))

  -- the bucket isn't one
  pub bucket_refused : Inv l ≡ false → Refuses Err 2 (answer (given_causes wrong outside p l x ++ ds) v)
  unfolding given_causes entries_causes paired pivot_causes bucket_causes
  bucket_refused h =
      call_refuses Err _ 2 (given_causes wrong outside p l x ++ ds)
      (more_refused 2 (take 4 (given_causes wrong outside p l x ++ ds)) _ (clause_refused 2 (take 4 (given_causes wrong outside p l x ++ ds)) (Inv l) refl inv h))
    where
      inv : first (take 4 (given_causes wrong outside p l x ++ ds)) ≡ none → Inv l ≡ true
      inv n =
          let m = none_later (not_pivot_count p) Shape _ n in
          let a = none_here (not_entry_count l) Shape _ m in
          let c = none_here (not (entries_read (entry_bytes l))) Malformed [] (none_later (wrong || not (pivots_read (records p))) Malformed _ (none_later (not_entry_count l) Shape _ m)) in
          rw (a, not-false (entries_read (entry_bytes l)) c)

  -- there are more than 63 slots
  pub many_refused : max_pivots ≤ length (slot_buckets (elements p) (entries l))
      → RefusesAt Err (given_causes wrong outside p l x ++ ds) 0 Shape (answer (given_causes wrong outside p l x ++ ds) v)
  unfolding given_causes entries_causes paired pivot_causes bucket_causes
  many_refused h = refuses_at Err _ (given_causes wrong outside p l x ++ ds) 0 _ Shape _ refl (too_many p (omega (arith, slots_count (elements p) (entries l))))

  -- another argument is outside the table
  pub outside_refused : outside ≡ true → RefusesAt Err (given_causes wrong outside p l x ++ ds) 6 OutOfRange (answer (given_causes wrong outside p l x ++ ds) v)
  unfolding given_causes entries_causes paired pivot_causes bucket_causes
  outside_refused h = refuses_at Err _ (given_causes wrong outside p l x ++ ds) 6 _ OutOfRange _ refl (or_left outside _ h)

-- the two are not the same: between the pivots 61 and 63 the entries 62 and 61, with the index 0, 2, hold the slot's bucket and don't rise, so a call refuses them with 14
abbrev pivots_ac : List ℕ
pivots_ac = encode_all (key (0x61 ∷ []) ∷ key (0x63 ∷ []) ∷ [])

abbrev bucket_ba : List ℕ
bucket_ba = encode_bucket (entry_b ∷ entry_a ∷ [])

abbrev index_ba : List ℕ
index_ba = 0 ∷ 0 ∷ 0 ∷ 2 ∷ []

pub held_unsound : ILseq bucket_ba index_ba (slot_buckets (elements pivots_ac) (entries bucket_ba)) × (InvLseq bucket_ba index_ba 1 → ⊥)
    × (translate_index_answer pivots_ac bucket_ba index_ba [] [] [] [] ≡ Err EntriesUnsorted)
unfolding outcome paired pivot_causes not_pivot_count pivots_read records pieces elements encode_all encode record_of joined reading field_reading length_field all_zero element key_bytes IsStrictlySorted rises_from lte lte_key all bucket_causes not_entry_count_by entries_read entry_bytes_by entries entry_of encode_bucket encode_entry entries_rise entries_causes given_causes only entries_below Index encode_place encode_index slot_entries slots_from slot_buckets together places_from
held_unsound = (record { bucket = refl; index = refl }, λ s. true≢false (sym s.rises), refl)

-- ---- lists and their translation

-- of one bucket, and then of the others
fits_step : (b : Bucket) (blist : List Bucket) (p q : Key) → TranslateBucketsWillFit (b ∷ blist) p q → TranslateBucketsWillFit blist p q
fits_step b blist p q f i h = f (suc i) (omega arith)

module _ (p q : Key) where
  -- where a kept key of no bucket passes 64 bytes, none of all together does
  pub fits_together : (blist : List Bucket) → TranslateBucketsWillFit blist p q → all short_entry (together (TranslateBuckets blist p q)) ≡ true
  unfolding together TranslateBuckets
  fits_together [] f = unfold all in refl
  fits_together (b ∷ blist) f =
      rw (all_append short_entry (TranslateBucket b p q) (together (TranslateBuckets blist p q)), f 0 (omega arith)) (fits_together blist (fits_step b blist p q f))

  -- and the other way round
  pub together_fits : (blist : List Bucket) → all short_entry (together (TranslateBuckets blist p q)) ≡ true → TranslateBucketsWillFit blist p q
  unfolding together TranslateBuckets
  together_fits [] h i l = absurd (omega arith)
  together_fits (b ∷ blist) h zero l =
      (both (all short_entry (TranslateBucket b p q)) (all short_entry (together (TranslateBuckets blist p q))) (sym (all_append short_entry (TranslateBucket b p q) (together (TranslateBuckets blist p q))) ∙ h)).0
  together_fits (b ∷ blist) h (suc i) l =
      let w = both (all short_entry (TranslateBucket b p q)) (all short_entry (together (TranslateBuckets blist p q))) (sym (all_append short_entry (TranslateBucket b p q) (together (TranslateBuckets blist p q))) ∙ h) in
      together_fits blist w.1 i (omega arith)

  -- where one bucket's would
  pub one_long : (blist : List Bucket) (i : ℕ) → i < length blist → all short_entry (TranslateBucket (get_or blist i []) p q) ≡ false → all short_entry (together (TranslateBuckets blist p q)) ≡ false
  one_long blist i l h = refuted _ (λ t. true≢false (sym (together_fits blist t i l) ∙ h))

-- the translation of a lent list
module _ (p l x : List ℕ) (old new : Key) (db dx : List ℕ) (blist : List Bucket) (e : slot_buckets (elements p) (entries l) ≡ blist) where
  new_list : first (given_causes (too_long old || too_long new) false p l x) ≡ none → new_bucket l old new ≡ together (TranslateBuckets blist old new)
  new_list g =
      let h = given_entries (too_long old || too_long new) false p l x g in
      let b = (list_held (too_long old || too_long new) false p l h x (given_index (too_long old || too_long new) false p l x g)).bucket in
      rw (b, e) (sym (renamed_together old new blist))

  -- a kept key of one bucket would pass 64 bytes
  pub long_refused : (i : ℕ) → i < length blist → all short_entry (TranslateBucket (get_or blist i []) old new) ≡ false
      → RefusesAt Err (translate_index_causes p l x old new db dx) 8 TooLong (translate_index_answer p l x old new db dx)
  unfolding given_causes entries_causes paired pivot_causes bucket_causes
  long_refused i h f =
      refuses_unless Err _ (translate_index_causes p l x old new db dx) 8 (bucket_long l old new) TooLong _ refl
      (λ g. not_fails _ (ap (all short_entry) (new_list g) ∙ one_long old new blist i h f))

  -- a destination would not hold the entries kept, or the places
  pub full_refused : (length db < length (together (TranslateBuckets blist old new)) * entry_size) ⊎ (length dx < length (elements p) * place_size)
      → RefusesAt Err (translate_index_causes p l x old new db dx) 9 NoRoom (translate_index_answer p l x old new db dx)
  unfolding given_causes entries_causes paired pivot_causes bucket_causes needed_bytes
  full_refused h =
      refuses_unless Err _ (translate_index_causes p l x old new db dx) 9 (no_room (needed_bytes l old new) db || no_room (length (elements p) * place_size) dx) NoRoom [] refl
      (λ g. ⊎_elim (entries_full (none_before (given_causes (too_long old || too_long new) false p l x) ((bucket_long l old new ⇒ TooLong) ∷ []) g)) places_full h)
    where
      entries_full : first (given_causes (too_long old || too_long new) false p l x) ≡ none → length db < length (together (TranslateBuckets blist old new)) * entry_size
          → (no_room (needed_bytes l old new) db || no_room (length (elements p) * place_size) dx) ≡ true
      entries_full g h = or_left (no_room (needed_bytes l old new) db) (no_room (length (elements p) * place_size) dx) (lt-ltb (length db) (length (new_bucket l old new) * entry_size) (rw (new_list g) h))

      places_full : length dx < length (elements p) * place_size → (no_room (needed_bytes l old new) db || no_room (length (elements p) * place_size) dx) ≡ true
      places_full h = or_right (no_room (needed_bytes l old new) db) (no_room (length (elements p) * place_size) dx) (lt-ltb (length dx) (length (elements p) * place_size) h)

  -- else, where no cause before applies, the call is accepted
  pub list_accepted : first (given_causes (too_long old || too_long new) false p l x) ≡ none → TranslateBucketsWillFit blist old new
      → length (together (TranslateBuckets blist old new)) * entry_size ≤ length db → length (elements p) * place_size ≤ length dx
      → translate_index_answer p l x old new db dx ≡ Ok (length (together (TranslateBuckets blist old new)))
  unfolding outcome needed_bytes
  list_accepted g f a c =
      let n = new_list g in
      let s : all short_entry (new_bucket l old new) ≡ true = rw n (fits_together old new blist f) in
      go_on Err _ (given_causes (too_long old || too_long new) false p l x) _ g
      ∙ rw (s, n, le-ltb (length db) (length (together (TranslateBuckets blist old new)) * entry_size) a, le-ltb (length dx) (length (elements p) * place_size) c)

  -- where the bucket alone will fit, the list does, and there is room for its entries
  pub yes_fits : first (given_causes (too_long old || too_long new) false p l x) ≡ none → will_fit_answer l old new (length db) ≡ Ok true
      → (TranslateBucketsWillFit blist old new) × (length (together (TranslateBuckets blist old new)) * entry_size ≤ length db)
  unfolding needed_bytes
  yes_fits g y =
      let n = new_list g in
      let a = accepted (translate_bucket_causes l old new db) (length (new_bucket l old new)) (translate_bucket_answer l old new db) refl _ (yes_accepted l old new db y) in
      let c = none_after (rename_causes l old new) ((bucket_long l old new ⇒ TooLong) ∷ (bucket_full l old new (length db) ⇒ NoRoom) ∷ []) a in
      let f = not-false (all short_entry (new_bucket l old new)) (none_here (bucket_long l old new) TooLong _ c) in
      let r = ltb-false (length db) (needed_bytes l old new) (none_here (bucket_full l old new (length db)) NoRoom [] (none_later (bucket_long l old new) TooLong _ c)) in
      (together_fits old new blist (rw n at f), rw n at r)
