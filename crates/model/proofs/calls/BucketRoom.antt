-- The room that a renamed bucket needs is that of what is written. Whatever was answered when it had to be that of the whole bucket is answered still, but for 10.
use Rattle.std.specs.Prelude.{Result, Ok, Err}
use mathlib.Core.Path.{◌≡◌, refl, sym, ◌∙◌}
use mathlib.Core.Bool.{Bool, true, false, cond, not, ◌||◌, true≢false}
use mathlib.Core.List.{List, [], ◌∷◌, ◌++◌}
use mathlib.Core.Option.{none, some}
use Prim.Native.Nat.{ℕ, ◌*◌, ◌≤◌}
use native.Mathlib.Omega.{arith}
use borrow.Author.Tests.{not-false, ltb-true, lt-ltb, le-ltb}
use lib.Dec.{ltb}
use lib.ListN.{length}
use Rattle.model.specs.declared.Refusal.{Refusal}
use Rattle.model.specs.declared.Refusal.TheVariants.{TooLong, NoRoom}
use Rattle.model.specs.keys.Key.{Key}
use Rattle.model.specs.buckets.Bucket.{entry_size, entries, encode_bucket}
use Rattle.model.specs.calls.Refusals.{Cause, ◌⇒◌, outcome, first, answer, leaves}
use Rattle.model.specs.calls.KeyCalls.{no_room}
use Rattle.model.specs.calls.BucketCalls.{bucket_causes, new_bucket, needed_bytes, bucket_long, bucket_full, rename_causes}
use Rattle.model.specs.calls.BucketCalls.{translate_bucket_causes, translate_bucket_answer, translate_bucket_leaves, will_fit_answer}
use Rattle.model.proofs.calls.Refusals.{after, later, accepted, value_is, refused_by, none_here, none_before, none_after}
use Rattle.model.proofs.calls.BucketCalls.{bucket_count, bucket_whole, kept_sized}
use Rattle.model.proofs.buckets.Entries.{length-encode_bucket}
use Rattle.model.proofs.buckets.Bucket.{translated_wft}

-- ---- 10 by what is written

module _ (l : List ℕ) (p q : Key) (h : first (rename_causes l p q) ≡ none) (s : bucket_long l p q ≡ false) where
  -- the bytes needed are those of the entries kept
  pub needed_written : needed_bytes l p q ≡ length (encode_bucket (new_bucket l p q))
  unfolding needed_bytes
  needed_written = sym (length-encode_bucket (new_bucket l p q) (kept_sized l p q h (not-false _ s)))

  -- so without 1, 2 and 8 the answer is 10 where the destination is shorter than what is written, as by every call, and else the count
  pub by_room : (d : List ℕ) → translate_bucket_answer l p q d ≡ cond (no_room (length (encode_bucket (new_bucket l p q))) d) (Err NoRoom) (Ok (length (new_bucket l p q)))
  unfolding outcome
  by_room d =
      let n = Ok (length (new_bucket l p q)) in
      let e = cond (bucket_full l p q (length d)) (Err NoRoom) n in
      rw (← needed_written)
      (sym (after Err n e (rename_causes l p q) _ h (later Err n e (bucket_long l p q) TooLong ((bucket_full l p q (length d) ⇒ NoRoom) ∷ []) s refl)))

  -- one as long as the bucket is always enough
  pub bucket_enough : (d : List ℕ) → length l ≤ length d → translate_bucket_answer l p q d ≡ Ok (length (new_bucket l p q))
  unfolding needed_bytes
  bucket_enough d j =
      let w = (translated_wft (entries l) p q 0 (omega arith)).at_most in
      let k : length (encode_bucket (new_bucket l p q)) ≤ length d = omega (arith, needed_written, bucket_count _ l h, bucket_whole _ l h) in
      rw (le-ltb (length d) (length (encode_bucket (new_bucket l p q))) k) at (by_room d)

-- where n entries are kept, a destination that holds n is taken, and any shorter one is 10
pub room_of_kept : (l : List ℕ) (p q : Key) (d : List ℕ) (n : ℕ) → translate_bucket_answer l p q d ≡ Ok n
    → (d' : List ℕ) → translate_bucket_answer l p q d' ≡ cond (no_room (n * entry_size) d') (Err NoRoom) (Ok n)
room_of_kept l p q d n a d' =
    let c = accepted (translate_bucket_causes l p q d) (length (new_bucket l p q)) _ refl n a in
    let h = none_before (rename_causes l p q) _ c in
    let s = none_here (bucket_long l p q) TooLong _ (none_after (rename_causes l p q) _ c) in
    let e : n ≡ length (new_bucket l p q) = value_is (translate_bucket_causes l p q d) (length (new_bucket l p q)) _ refl n a in
    let w : length (encode_bucket (new_bucket l p q)) ≡ n * entry_size = rw e (sym (needed_written l p q h s) ∙ (unfold needed_bytes in refl)) in
    rw (← w, e) (by_room l p q h s d')

-- ---- as before W2

-- cause 10 as it was, of a destination of n bytes: "The destination must hold as many entries as the source bucket"
abbrev whole_full : List ℕ → ℕ → Bool
whole_full l n = ltb n (length (entries l) * entry_size)

-- the causes of the call by it
abbrev whole_causes : List ℕ → Key → Key → List ℕ → List Cause
whole_causes l p q d = rename_causes l p q ++ (bucket_long l p q ⇒ TooLong) ∷ (whole_full l (length d) ⇒ NoRoom) ∷ []

-- the answer to the question whether it will fit, by that cause
abbrev whole_fit : List ℕ → Key → Key → ℕ → Result Bool Refusal
whole_fit l p q n = answer (rename_causes l p q) (not (bucket_long l p q || whole_full l n))

-- that need was the bucket's own length
pub whole_is : (l : List ℕ) (p q : Key) (n : ℕ) → first (rename_causes l p q) ≡ none → whole_full l n ≡ ltb n (length l)
whole_is l p q n h = let e : length (entries l) * entry_size ≡ length l = omega (arith, bucket_count _ l h, bucket_whole _ l h) in rw e

-- a last cause that applies less often changes the outcome only where it made it
last_cause : {A : Type 0} (f : Refusal → A) (v : A) (cs : List Cause) (b c : Bool) (r : Refusal) → (b ≡ true → c ≡ true) → (first (cs ++ (c ⇒ r) ∷ []) ≡ some r → ⊥)
    → outcome f (cs ++ (b ⇒ r) ∷ []) v ≡ outcome f (cs ++ (c ⇒ r) ∷ []) v
unfolding outcome
last_cause f v [] b true r h n = absurd (n refl)
last_cause f v [] true false r h n = absurd (true≢false (sym (h refl)))
last_cause f v [] false false r h n = refl
last_cause f v ((true ⇒ s) ∷ cs) b c r h n = refl
last_cause f v ((false ⇒ s) ∷ cs) b c r h n = last_cause f v cs b c r h n

-- a reason for "no" that applies less often changes the answer only where that was no
last_no : (cs : List Cause) (a b c : Bool) → (b ≡ true → c ≡ true) → (answer cs (not (a || c)) ≡ Ok false → ⊥) → answer cs (not (a || b)) ≡ answer cs (not (a || c))
unfolding outcome
last_no [] true b c h n = refl
last_no [] false b true h n = absurd (n refl)
last_no [] false true false h n = absurd (true≢false (sym (h refl)))
last_no [] false false false h n = refl
last_no ((true ⇒ s) ∷ cs) a b c h n = refl
last_no ((false ⇒ s) ∷ cs) a b c h n = last_no cs a b c h n

module _ (l : List ℕ) (p q : Key) where
  -- no more entries are kept than there are
  less_needed : (n : ℕ) → bucket_full l p q n ≡ true → whole_full l n ≡ true
  unfolding needed_bytes
  less_needed n h =
      let w = (translated_wft (entries l) p q 0 (omega arith)).at_most in
      let k = ltb-true n (length (new_bucket l p q) * entry_size) h in
      lt-ltb n (length (entries l) * entry_size) (omega arith)

  -- "Calls that were accepted answer as they did" and leave what they did; so does each that was refused, but with 10
  pub as_before : (d : List ℕ) → (answer (whole_causes l p q d) (length (new_bucket l p q)) ≡ Err NoRoom → ⊥)
      → (translate_bucket_answer l p q d ≡ answer (whole_causes l p q d) (length (new_bucket l p q)))
      × (translate_bucket_leaves l p q d ≡ leaves (whole_causes l p q d) (encode_bucket (new_bucket l p q)) d)
  unfolding bucket_causes
  as_before d h =
      let n : first (whole_causes l p q d) ≡ some NoRoom → ⊥ = λ e. h (sym (refused_by Err _ _ (whole_causes l p q d) NoRoom e refl)) in
      let cs = rename_causes l p q ++ (bucket_long l p q ⇒ TooLong) ∷ [] in (
        last_cause Err _ cs (bucket_full l p q (length d)) (whole_full l (length d)) NoRoom (less_needed (length d)) n,
        last_cause (λ (r : Refusal). d) _ cs (bucket_full l p q (length d)) (whole_full l (length d)) NoRoom (less_needed (length d)) n,
      )

  -- the question whether it will fit reads accordingly: its yes stays, and so do its refusals
  pub fit_as_before : (n : ℕ) → (whole_fit l p q n ≡ Ok false → ⊥) → will_fit_answer l p q n ≡ whole_fit l p q n
  fit_as_before n h = last_no (rename_causes l p q) (bucket_long l p q) (bucket_full l p q n) (whole_full l n) (less_needed n) h
