-- The pass over entries that writes them: what is left to write, put after what stands, gives the whole.
use mathlib.Core.Path.{◌≡◌, refl, sym, ap, ◌∙◌}
use mathlib.Core.Bool.{Bool, true}
use mathlib.Core.List.{List, [], ◌∷◌, ◌++◌, append_assoc}
use mathlib.Core.Logic.{⊎_elim}
use mathlib.Core.Option.{none}
use Prim.Native.Nat.{ℕ, zero, suc, ◌+◌, ◌*◌, ◌-◌, ◌/◌, ◌≤◌, ◌<◌}
use native.Mathlib.Numerals.{add-one}
use native.Mathlib.Omega.{arith}
use borrow.Author.Tests.{not-false, ltb-false}
use borrow.Rule.Slice.PartMut.{put_mid}
use lib.ListN.{length, take, drop, length-append, length-drop, take-append-drop}
use lib.Seq.{length-take-le, take-append_seam, drop-append_seam}
use mir.Syntax.{w64}
use mir.Val.{Fits}
use Rattle.model.specs.declared.Refusal.TheVariants.{TooLong, NoRoom}
use Rattle.model.specs.keys.Key.{Key}
use Rattle.model.specs.records.Record.{joined}
use Rattle.model.specs.tables.Tables.{all}
use Rattle.model.specs.buckets.Bucket.{Entry, entry_size, encode_bucket, sized_entry}
use Rattle.model.specs.calls.Refusals.{first, over}
use Rattle.model.specs.calls.BucketCalls.{new_bucket, short_entry, needed_bytes, bucket_long, bucket_full, rename_causes, translate_bucket_causes}
use Rattle.model.proofs.Lists.{rest, lent_on, over_append, length_over, all_append, le_or_lt}
use Rattle.model.proofs.keys.Key.{both}
use Rattle.model.proofs.buckets.Entries.{encode_append, length-encode_bucket}
use Rattle.model.proofs.calls.Refusals.{none_here, none_later, none_before, none_after}
use Rattle.model.proofs.calls.BucketCalls.{kept_sized}
use Rattle.model.specs.inner.Places.{entry_at}
use Rattle.bucket_measures.specs.Kept.{Good, kept_of}
use Rattle.bucket_measures.proofs.OneKept.{one_left}
use Rattle.bucket_measures.proofs.Measuring.{left, left_over, left_next}
use Rattle.buckets.specs.Checked.{CheckedEntry, kept_bytes}
use Rattle.buckets.proofs.Good.{entry_checked, kept_most}

-- a list of length 0 is empty
no_bytes : (l : List ℕ) → length l ≡ 0 → l ≡ []
no_bytes [] h = refl
no_bytes (x ∷ l) h = absurd (omega arith)

-- what is written after a, and then what is written after that
then_written : (a k r t : List ℕ) → take (length a + length k) (a ++ over k t) ++ over r (drop (length a + length k) (a ++ over k t)) ≡ a ++ over (k ++ r) t
then_written a k r t =
    let e : a ++ over k t ≡ (a ++ k) ++ drop (length k) t = unfold over in sym (append_assoc a k (drop (length k) t)) in
    rw (e, ← length-append a k, take-append_seam (a ++ k) (drop (length k) t), drop-append_seam (a ++ k) (drop (length k) t), append_assoc a k)
    (ap (λ (x : List ℕ). a ++ x) (over_append k r t))

-- ---- what holds of all entries that are kept holds of those that one place leaves, and of those from a place on

module _ (l : List ℕ) (p q : Key) (test : Entry → Bool) (h : all test (new_bucket l p q) ≡ true) where
  both_parts : (j : ℕ) → j < length l / entry_size → all test (left l p q j) ≡ true
      → (all test (kept_of (entry_at l j) p q) ≡ true) × (all test (left l p q (j + 1)) ≡ true)
  both_parts j k f = both _ _ (sym (all_append test (kept_of (entry_at l j) p q) (left l p q (j + 1))) ∙ rw (← left_next l p q j k) f)

  from_place : (j : ℕ) → j ≤ length l / entry_size → all test (left l p q j) ≡ true
  from_place zero k = h
  from_place (suc j) k = rw (← add-one j) (both_parts j (omega arith) (from_place j (omega arith))).1

  at_place : (j : ℕ) → j < length l / entry_size → all test (kept_of (entry_at l j) p q) ≡ true
  at_place j k = (both_parts j k (from_place j (omega arith))).0

-- ---- none of the call's causes applies

module _ (l : List ℕ) (p q : Key) (d₀ : List ℕ) (h : first (translate_bucket_causes l p q d₀) ≡ none) where
  all_good : Good l p q
  all_good = none_before (rename_causes l p q) _ h

  short : all short_entry (new_bucket l p q) ≡ true
  short = not-false _ (none_here (bucket_long l p q) TooLong _ (none_after (rename_causes l p q) _ h))

  roomy : needed_bytes l p q ≤ length d₀
  roomy =
      ltb-false (length d₀) (needed_bytes l p q)
      (none_here (bucket_full l p q (length d₀)) NoRoom [] (none_later (bucket_long l p q) TooLong _ (none_after (rename_causes l p q) _ h)))

  -- the kept entries have their size each
  sized : all sized_entry (new_bucket l p q) ≡ true
  sized = kept_sized l p q all_good short

  whole_length : length (encode_bucket (new_bucket l p q)) ≡ length (new_bucket l p q) * entry_size
  whole_length = length-encode_bucket (new_bucket l p q) sized

  place_length : (j : ℕ) → j < length l / entry_size → length (kept_bytes (entry_at l j) p q) ≤ entry_size
  place_length j k =
      omega (arith, one_left (entry_at l j) p q, length-encode_bucket (kept_of (entry_at l j) p q) (at_place l p q sized_entry sized j k))

  left_length : (j : ℕ) → j ≤ length l / entry_size → length (encode_bucket (left l p q j)) ≡ length (left l p q j) * entry_size
  left_length j k = length-encode_bucket (left l p q j) (from_place l p q sized_entry sized j k)

  -- and have room
  whole_room : length (encode_bucket (new_bucket l p q)) ≤ length d₀
  unfolding needed_bytes
  whole_room = omega (arith, whole_length, roomy)

-- ---- the pass

-- the entries before the place i are written up to the place `at`
pub record Written (l : List ℕ) (p q : Key) (d₀ d : List ℕ) (i at : ℕ) : Type 0 where
  pub long : length d ≡ length d₀
  pub ends : at + length (encode_bucket (left l p q i)) ≡ length (encode_bucket (new_bucket l p q))
  pub bytes : take at d ++ over (encode_bucket (left l p q i)) (drop at d) ≡ over (encode_bucket (new_bucket l p q)) d₀

module _ (l : List ℕ) (p q : Key) (d₀ : List ℕ) (kept : ℕ) (h : first (translate_bucket_causes l p q d₀) ≡ none) (k : kept ≡ length (new_bucket l p q)) where
  -- the end is a number of the code
  pub end_fits : Fits w64 (kept * entry_size)
  end_fits = record { fits = omega (arith, kept_most l p q (all_good l p q d₀ h)) }

  -- at the start all is left
  pub put_start : Written l p q d₀ d₀ 0 0
  put_start = record { long = refl; ends = omega arith; bytes = refl }

  module _ (d : List ℕ) (i at : ℕ) (w : Written l p q d₀ d i at) where
    -- what is left has room after what is written
    pub put_inside : at ≤ length d
    put_inside = omega (arith, w.ends, w.long, whole_room l p q d₀ h)

    -- at the end nothing is left
    pub put_end : kept * entry_size ≤ at → d ≡ over (encode_bucket (new_bucket l p q)) d₀
    unfolding over
    put_end o =
        let n : length (encode_bucket (left l p q i)) ≡ 0 = omega (arith, w.ends, whole_length l p q d₀ h) in
        let e : encode_bucket (left l p q i) ≡ [] = no_bytes (encode_bucket (left l p q i)) n in
        sym (take-append-drop at d) ∙ (rw e at w.bytes)

    -- nor past the last entry
    pub put_over : length l / entry_size ≤ i → d ≡ over (encode_bucket (new_bucket l p q)) d₀
    unfolding over encode_bucket joined
    put_over o = sym (take-append-drop at d) ∙ (rw (left_over l p q i o) at w.bytes)

    module _ (o : at < kept * entry_size) where
      -- before it there is an entry
      put_place : i < length l / entry_size
      unfolding encode_bucket joined
      put_place = ⊎_elim past (λ (j : i < length l / entry_size). j) (le_or_lt (length l / entry_size) i)
        where
          past : length l / entry_size ≤ i → i < length l / entry_size
          past j = absurd (omega (arith, rw (left_over l p q i j) at w.ends, whole_length l p q d₀ h))

      -- after what is written there is room for an entry
      entry_room : at + entry_size ≤ length (encode_bucket (new_bucket l p q))
      entry_room = omega (arith, w.ends, left_length l p q d₀ h i (omega (arith, put_place)), whole_length l p q d₀ h)

      -- an entry up to the place is as `put_entry` asks, so that only the order of the entries tells which it must be
      module _ (e : List ℕ) (j : ℕ) (b : j ≤ i) (g : e ≡ entry_at l j) where
        j_place : j < length l / entry_size
        j_place = omega (arith, put_place)

        pub put_checked : CheckedEntry e
        put_checked = entry_checked l p q (all_good l p q d₀ h) j e j_place g

        pub put_short : all short_entry (kept_of e p q) ≡ true
        put_short = rw g (at_place l p q short_entry (short l p q d₀ h) j j_place)

        e_length : length (kept_bytes e p q) ≤ entry_size
        e_length = rw g (place_length l p q d₀ h j j_place)

        pub put_room : length (kept_bytes e p q) ≤ length (take (length d - at) (drop at d))
        put_room = rw (rest, length-drop) (omega (arith, e_length, entry_room, w.long, whole_room l p q d₀ h))

        -- the place after it is a number of the code
        pub at_fits : (n : ℕ) → n ≡ length (kept_bytes e p q) → Fits w64 (at + n)
        at_fits n c = record { fits = omega (arith, e_length, entry_room, whole_length l p q d₀ h, kept_most l p q (all_good l p q d₀ h)) }

      module _ (e : List ℕ) (g : e ≡ entry_at l i) where
        here_left : left l p q i ≡ kept_of e p q ++ left l p q (i + 1)
        here_left = rw g (left_next l p q i put_place)

        here_bytes : encode_bucket (left l p q i) ≡ kept_bytes e p q ++ encode_bucket (left l p q (i + 1))
        here_bytes = rw here_left (encode_append (kept_of e p q) (left l p q (i + 1)))

        here_ends : at + (length (kept_bytes e p q) + length (encode_bucket (left l p q (i + 1)))) ≡ length (encode_bucket (new_bucket l p q))
        here_ends = rw (← length-append, ← here_bytes) w.ends

        module _ (n : ℕ) (c : n ≡ length (kept_bytes e p q)) where
          -- the entry at the place is written there, and the others are left
          pub put_turn : (v : List ℕ) → v ≡ over (kept_bytes e p q) (take (length d - at) (drop at d))
              → Written l p q d₀ (put_mid at (length d - at) d v) (i + 1) (at + n)
          put_turn v f =
              let u : v ≡ over (kept_bytes e p q) (drop at d) = rw rest at f in
              let x : length (take at d) ≡ at = length-take-le at d put_inside in
              let y : put_mid at (length d - at) d v ≡ take at d ++ over (kept_bytes e p q) (drop at d) = rw (lent_on, u) in
              let z = then_written (take at d) (kept_bytes e p q) (encode_bucket (left l p q (i + 1))) (drop at d) in
              record {
                long = rw (y, length-append, x, length_over (kept_bytes e p q) (drop at d) (rw rest at (put_room e i (omega arith) g)), length-drop) (omega (arith, w.long, put_inside));
                ends = omega (arith, here_ends);
                bytes = rw (y, c) (rw x at z ∙ (rw here_bytes at w.bytes));
              }

-- writing the entries, one after the other
pub ruleset appending = (end_fits, put_start, put_inside, put_end, put_over, put_checked, put_short, put_room, at_fits, put_turn)
