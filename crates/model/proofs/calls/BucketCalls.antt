-- Buckets by their bytes: a checked bucket is the bytes of its entries, a renamed one passes the check, and will-it-fit says no where the call answers 8 or 10.
use Rattle.std.specs.Prelude.{Result, Ok, Err}
use mathlib.Core.Path.{◌≡◌, refl, sym}
use mathlib.Core.Bool.{Bool, true, false, cond, not, ◌||◌}
use mathlib.Core.List.{List, [], ◌∷◌}
use mathlib.Core.Logic.{◌⊎◌, inl, inr}
use mathlib.Core.Option.{none}
use Prim.Native.Nat.{ℕ, ◌*◌, ◌/◌, ◌≤◌}
use native.Mathlib.Omega.{arith}
use borrow.Author.Tests.{not-false}
use lib.Dec.{eqb, leb}
use lib.ListN.{length, take}
use Rattle.model.specs.declared.Refusal.{Refusal}
use Rattle.model.specs.declared.Refusal.TheVariants.{Shape, Malformed, TooLong, NoRoom}
use Rattle.model.specs.keys.Key.{Key, Bytes, max_len, too_long, IsPrefix}
use Rattle.model.specs.tables.Tables.{all}
use Rattle.model.specs.buckets.Bucket.{Bucket, number_size, entry_size, max_entries, entry_bytes, entries, encode_bucket, translate_entry, TranslateBucket, sized_entry}
use Rattle.model.specs.calls.Refusals.{outcome, first, over}
use Rattle.model.specs.calls.BucketCalls.{not_entry_count, entries_read, bucket_causes, new_bucket, short_entry, bucket_long, bucket_full, rename_causes}
use Rattle.model.specs.calls.BucketCalls.{translate_bucket_causes, translate_bucket_answer, translate_bucket_leaves, will_fit_answer}
use Rattle.model.proofs.Lists.{take_over}
use Rattle.model.proofs.keys.Key.{both}
use Rattle.model.proofs.buckets.Entries.{length-encode_bucket, entries-encode_bucket}
use Rattle.model.proofs.buckets.Bucket.{translated_wft}
use Rattle.model.proofs.calls.Refusals.{passed, accepted, value_is, none_here, none_before, none_after}
use Rattle.model.proofs.calls.BucketsBySize.{count_by, whole_by, most_by, wrong_by, read_by, encode_by, all_sized_by, written_by}

-- ---- a bucket that has none of the causes 1 and 2

module _ (wrong : Bool) (l : List ℕ) (h : first (bucket_causes wrong l) ≡ none) where
  -- its bytes are whole entries
  pub bucket_whole : length l ≡ (length l / entry_size) * entry_size
  unfolding bucket_causes
  bucket_whole = whole_by number_size wrong l h

  -- at most 512
  pub bucket_most : length l / entry_size ≤ max_entries
  unfolding bucket_causes
  bucket_most = most_by number_size wrong l h

  -- no other argument has cause 2
  pub bucket_wrong : wrong ≡ false
  unfolding bucket_causes
  bucket_wrong = wrong_by number_size wrong l h

  -- each entry reads as a key with its number
  pub bucket_read : entries_read (entry_bytes l) ≡ true
  unfolding bucket_causes
  bucket_read = read_by number_size wrong l h

  -- there are as many entries as their size goes into the bytes
  pub bucket_count : length (entries l) ≡ length l / entry_size
  unfolding entries
  bucket_count = count_by number_size l

  -- the entries' bytes are the bucket
  pub bucket_encode : Bytes l → encode_bucket (entries l) ≡ l
  unfolding bucket_causes entries
  bucket_encode = encode_by number_size wrong l h

  -- each has a key of at most 64 bytes and a number of four
  pub bucket_sized : all sized_entry (entries l) ≡ true
  unfolding bucket_causes entries
  bucket_sized = all_sized_by number_size wrong l h

-- kept entries whose keys are short are sized
renamed_sized : (b : Bucket) (p q : Key) → all sized_entry b ≡ true → all short_entry (TranslateBucket b p q) ≡ true → all sized_entry (TranslateBucket b p q) ≡ true
unfolding TranslateBucket all
renamed_sized [] p q h j = refl
renamed_sized (e ∷ b) p q h j = go (IsPrefix p e.key) (both (sized_entry e) (all sized_entry b) h) j (renamed_sized b p q (both (sized_entry e) (all sized_entry b) h).1)
  where
    go : (t : Bool) → (sized_entry e ≡ true) × (all sized_entry b ≡ true) → all short_entry (cond t (translate_entry p q e ∷ TranslateBucket b p q) (TranslateBucket b p q)) ≡ true
        → (all short_entry (TranslateBucket b p q) ≡ true → all sized_entry (TranslateBucket b p q) ≡ true)
        → all sized_entry (cond t (translate_entry p q e ∷ TranslateBucket b p q) (TranslateBucket b p q)) ≡ true
    go true w j r =
        let s = both (short_entry (translate_entry p q e)) (all short_entry (TranslateBucket b p q)) j in
        let n = both (leb (length e.key) max_len) (eqb (length e.number) number_size) w.0 in
        rw (s.0, n.1) (r s.1)
    go false w j r = r j

-- kept of a bucket without causes 1, 2 and 8 they are
pub kept_sized : (l : List ℕ) (p q : Key) → first (rename_causes l p q) ≡ none → all short_entry (new_bucket l p q) ≡ true → all sized_entry (new_bucket l p q) ≡ true
kept_sized l p q h s = renamed_sized (entries l) p q (bucket_sized _ l h) s

-- written entries of at most 512 have none of the causes 1 and 2
pub written_bucket : (b : Bucket) → all sized_entry b ≡ true → length b ≤ max_entries → first (bucket_causes false (encode_bucket b)) ≡ none
unfolding bucket_causes
written_bucket = written_by number_size

-- ---- an accepted renaming

module _ (l : List ℕ) (p q : Key) (d : List ℕ) (m : ℕ) (h : translate_bucket_answer l p q d ≡ Ok m) where
  no_cause : first (translate_bucket_causes l p q d) ≡ none
  no_cause = accepted (translate_bucket_causes l p q d) (length (new_bucket l p q)) (translate_bucket_answer l p q d) refl m h

  checked : first (rename_causes l p q) ≡ none
  checked = none_before (rename_causes l p q) _ no_cause

  short : all short_entry (new_bucket l p q) ≡ true
  short = not-false _ (none_here (bucket_long l p q) TooLong _ (none_after (rename_causes l p q) _ no_cause))

  all_sized : all sized_entry (new_bucket l p q) ≡ true
  all_sized = kept_sized l p q checked short

  -- it answers the count of entries kept
  pub bucket_answers : m ≡ length (new_bucket l p q)
  bucket_answers = value_is (translate_bucket_causes l p q d) (length (new_bucket l p q)) (translate_bucket_answer l p q d) refl m h

  -- the bytes of the entries kept are written
  pub renamed_written : take (m * entry_size) (translate_bucket_leaves l p q d) ≡ encode_bucket (new_bucket l p q)
  renamed_written =
      let e : translate_bucket_leaves l p q d ≡ over (encode_bucket (new_bucket l p q)) d = sym (passed (λ (_ : Refusal). d) _ _ (translate_bucket_causes l p q d) no_cause refl) in
      let n : m * entry_size ≡ length (encode_bucket (new_bucket l p q)) = rw bucket_answers (sym (length-encode_bucket (new_bucket l p q) all_sized)) in
      rw (e, n) (take_over (encode_bucket (new_bucket l p q)) d)

  -- what it wrote stands for the renamed bucket
  pub renamed_reads : entries (take (m * entry_size) (translate_bucket_leaves l p q d)) ≡ new_bucket l p q
  renamed_reads = rw renamed_written (entries-encode_bucket (new_bucket l p q) all_sized)

  -- and passes the check: it can be lent to the next call
  pub renamed_passes : first (bucket_causes false (take (m * entry_size) (translate_bucket_leaves l p q d))) ≡ none
  renamed_passes =
      let a = (translated_wft (entries l) p q 0 (omega arith)).at_most in
      rw renamed_written (written_bucket (new_bucket l p q) all_sized (omega (arith, a, bucket_count _ l checked, bucket_most _ l checked)))

-- ---- will it fit

-- the call and the question by whether causes 1, 2, 8 and 10 apply
abbrev call_by : ℕ → Bool → Bool → Bool → Bool → Result ℕ Refusal
call_by n x y a b =
    cond x (Err Shape) (cond y (Err Malformed) (cond a (Err TooLong) (cond b (Err NoRoom) (Ok n))))

abbrev fit_by : Bool → Bool → Bool → Bool → Result Bool Refusal
fit_by x y a b = cond x (Err Shape) (cond y (Err Malformed) (Ok (not (a || b))))

-- what is claimed of the two
record Agree (n : ℕ) (c : Result ℕ Refusal) (f : Result Bool Refusal) : Type 0 where
  no : f ≡ Ok false → (c ≡ Err TooLong) ⊎ (c ≡ Err NoRoom)
  eight : c ≡ Err TooLong → f ≡ Ok false
  ten : c ≡ Err NoRoom → f ≡ Ok false
  yes : f ≡ Ok true → c ≡ Ok n

agree : (n : ℕ) (x y a b : Bool) → Agree n (call_by n x y a b) (fit_by x y a b)
agree n true y a b =
    record {
      no = λ e. let z : ◌≡◌ {A = ℕ} 0 1 = cc in absurd (omega arith);
      eight = λ e. let z : ◌≡◌ {A = ℕ} 0 1 = cc in absurd (omega arith);
      ten = λ e. let z : ◌≡◌ {A = ℕ} 0 1 = cc in absurd (omega arith);
      yes = λ e. let z : ◌≡◌ {A = ℕ} 0 1 = cc in absurd (omega arith);
    }
agree n false true a b =
    record {
      no = λ e. let z : ◌≡◌ {A = ℕ} 0 1 = cc in absurd (omega arith);
      eight = λ e. let z : ◌≡◌ {A = ℕ} 0 1 = cc in absurd (omega arith);
      ten = λ e. let z : ◌≡◌ {A = ℕ} 0 1 = cc in absurd (omega arith);
      yes = λ e. let z : ◌≡◌ {A = ℕ} 0 1 = cc in absurd (omega arith);
    }
agree n false false true b =
    record { no = λ e. inl refl; eight = λ e. refl; ten = λ e. refl; yes = λ e. let z : ◌≡◌ {A = ℕ} 0 1 = cc in absurd (omega arith) }
agree n false false false true =
    record { no = λ e. inr refl; eight = λ e. refl; ten = λ e. refl; yes = λ e. let z : ◌≡◌ {A = ℕ} 0 1 = cc in absurd (omega arith) }
agree n false false false false =
    record {
      no = λ e. let z : ◌≡◌ {A = ℕ} 0 1 = cc in absurd (omega arith);
      eight = λ e. let z : ◌≡◌ {A = ℕ} 0 1 = cc in absurd (omega arith);
      ten = λ e. let z : ◌≡◌ {A = ℕ} 0 1 = cc in absurd (omega arith);
      yes = λ e. refl;
    }

module _ (l : List ℕ) (p q : Key) (d : List ℕ) where
  both_agree : Agree (length (new_bucket l p q)) (translate_bucket_answer l p q d) (will_fit_answer l p q (length d))
  unfolding bucket_causes outcome
  both_agree = agree (length (new_bucket l p q)) (not_entry_count l) (too_long p || too_long q || not (entries_read (entry_bytes l))) (bucket_long l p q) (bucket_full l p q (length d))

  -- it says no only where the call, with a destination of that length, answers 8 or 10
  pub no_refused : will_fit_answer l p q (length d) ≡ Ok false → (translate_bucket_answer l p q d ≡ Err TooLong) ⊎ (translate_bucket_answer l p q d ≡ Err NoRoom)
  no_refused = both_agree.no

  -- and wherever it answers 8
  pub eight_no : translate_bucket_answer l p q d ≡ Err TooLong → will_fit_answer l p q (length d) ≡ Ok false
  eight_no = both_agree.eight

  -- or 10
  pub ten_no : translate_bucket_answer l p q d ≡ Err NoRoom → will_fit_answer l p q (length d) ≡ Ok false
  ten_no = both_agree.ten

  -- where it says yes the call is accepted
  pub yes_accepted : will_fit_answer l p q (length d) ≡ Ok true → translate_bucket_answer l p q d ≡ Ok (length (new_bucket l p q))
  yes_accepted = both_agree.yes
