-- The pass over entries that measures them: what is known of the renamed bucket by what is left of it.
use Rattle.std.specs.Prelude.{Result, Ok, Err}
use mathlib.Core.Path.{◌≡◌, refl, sym, ap, ◌∙◌}
use mathlib.Core.Bool.{Bool, true, false, ◌&&◌}
use mathlib.Core.List.{List, [], ◌∷◌, ◌++◌}
use Prim.Native.Nat.{ℕ, suc, ◌+◌, ◌/◌, ◌≤◌, ◌<◌}
use native.Mathlib.Numerals.{add-one}
use native.Mathlib.Omega.{arith}
use borrow.Author.Tests.{not-false}
use lib.ListN.{length, drop, length-append, drop_of_length-le}
use lib.Seq.{drop-cons}
use mir.Syntax.{w64}
use mir.Val.{Fits}
use Rattle.model.specs.declared.Refusal.{Refusal}
use Rattle.model.specs.declared.Refusal.TheVariants.{TooLong}
use Rattle.model.specs.keys.Key.{Key}
use Rattle.model.specs.tables.Tables.{all}
use Rattle.model.specs.buckets.Bucket.{Bucket, entry_size, entry_of, entry_bytes, entries, TranslateBucket}
use Rattle.model.specs.calls.Refusals.{outcome, answer}
use Rattle.model.specs.calls.BucketCalls.{new_bucket, short_entry}
use Rattle.model.proofs.Lists.{get_d_map, all_append}
use Rattle.model.proofs.buckets.Renamed.{renamed_append}
use Rattle.model.proofs.buckets.Bucket.{translated_wft}
use Rattle.model.proofs.calls.Refusals.{accepted, value_is, none_here}
use Rattle.model.specs.inner.Places.{entry_at}
use Rattle.bucket_measures.specs.Kept.{kept_of, long_kept}
use Rattle.entries.proofs.Places.{length-entry_bytes, length_entries}

-- what the entries from a place on leave in the renamed bucket
abbrev pub left : List ℕ → Key → Key → ℕ → Bucket
left l p q i = TranslateBucket (drop i (entries l)) p q

module _ (l : List ℕ) (p q : Key) (i : ℕ) where
  -- past the last entry nothing is left
  pub left_over : length l / entry_size ≤ i → left l p q i ≡ []
  unfolding TranslateBucket
  left_over h = let k : length (entries l) ≤ i = omega (arith, length_entries l) in rw (drop_of_length-le (entries l) k)

  -- before it, what one entry leaves and then the others
  pub left_next : i < length l / entry_size → left l p q i ≡ kept_of (entry_at l i) p q ++ left l p q (i + 1)
  unfolding kept_of entries
  left_next h =
      let d = entry_of [] in
      let k : i < length (entries l) = omega (arith, length_entries l) in
      let j : i < length (entry_bytes l) = omega (arith, length-entry_bytes l) in
      rw (drop-cons (entries l) i d k, get_d_map entry_of (entry_bytes l) i d [] j, add-one)
      (renamed_append p q (entry_of (entry_at l i) ∷ []) (drop (suc i) (entries l)))

-- no more are kept than there are
pub kept_most : (l : List ℕ) (p q : Key) → length (new_bucket l p q) ≤ length l / entry_size
kept_most l p q = omega (arith, (translated_wft (entries l) p q 0 (omega arith)).at_most, length_entries l)

-- ---- the pass

-- `kept` entries are kept before the place i, and all of them are short
pub record Measured (l : List ℕ) (p q : Key) (i kept : ℕ) : Type 0 where
  pub within : i ≤ length l / entry_size
  pub counted : kept + length (left l p q i) ≡ length (new_bucket l p q)
  pub short : all short_entry (new_bucket l p q) ≡ all short_entry (left l p q i)

module _ (l : List ℕ) (p q : Key) where
  -- at the start nothing is passed
  pub measure_start : Measured l p q 0 0
  measure_start = record { within = omega arith; counted = omega arith; short = refl }

  module _ (i kept : ℕ) (w : Measured l p q i kept) where
    -- at the end the count is the answer
    pub measure_end : length l / entry_size ≤ i → Ok kept ≡ answer (long_kept (new_bucket l p q)) (length (new_bucket l p q))
    unfolding outcome all
    measure_end h =
        let e = left_over l p q i h in
        let n : kept ≡ length (new_bucket l p q) = omega (arith, rw e at w.counted) in
        rw (w.short, e, ← n)

    module _ (h : i < length l / entry_size) (e : List ℕ) (g : e ≡ entry_at l i) (a : Result ℕ Refusal) (f : a ≡ answer (long_kept (kept_of e p q)) (length (kept_of e p q))) where
      here_left : left l p q i ≡ kept_of e p q ++ left l p q (i + 1)
      here_left = rw g (left_next l p q i h)

      here_short : all short_entry (new_bucket l p q) ≡ (all short_entry (kept_of e p q) && all short_entry (left l p q (i + 1)))
      here_short = w.short ∙ ap (all short_entry) here_left ∙ all_append short_entry (kept_of e p q) (left l p q (i + 1))

      here_counted : kept + (length (kept_of e p q) + length (left l p q (i + 1))) ≡ length (new_bucket l p q)
      here_counted = rw (← length-append, ← here_left) w.counted

      -- an entry that is too long makes the answer
      pub measure_refused : (r : Refusal) (x : Result ℕ Refusal) → a ≡ Err r → x ≡ Err r → x ≡ answer (long_kept (new_bucket l p q)) (length (new_bucket l p q))
      unfolding outcome
      measure_refused r x k o = o ∙ sym k ∙ go (all short_entry (kept_of e p q)) refl
        where
          go : (t : Bool) → all short_entry (kept_of e p q) ≡ t → a ≡ answer (long_kept (new_bucket l p q)) (length (new_bucket l p q))
          go true z = let v = rw z at f in let x : ◌≡◌ {A = ℕ} 0 1 = cc in absurd (omega arith)
          go false z = let v = rw z at f in let x = rw z at here_short in rw x v

      module _ (n : ℕ) (k : a ≡ Ok n) where
        counts : n ≡ length (kept_of e p q)
        counts = value_is (long_kept (kept_of e p q)) _ a f n k

        all_short : all short_entry (kept_of e p q) ≡ true
        all_short = not-false _ (none_here _ TooLong [] (accepted (long_kept (kept_of e p q)) _ a f n k))

        -- the new count is a number of the code
        pub kept_fits : Fits w64 (length l) → Fits w64 (kept + n)
        kept_fits o = record { fits = omega (arith, counts, here_counted, kept_most l p q, o.fits) }

        -- one that isn't too long is counted where it is kept
        pub measure_turn : Measured l p q (i + 1) (kept + n)
        measure_turn =
            record {
              within = omega arith;
              counted = omega (arith, counts, here_counted);
              short = rw all_short at here_short;
            }
