-- A renamed bucket: it is the kept entries translated, in order, each once; renaming back gives them; strictly rising entries stay so.
use mathlib.Core.Path.{◌≡◌, refl, ap, ◌∙◌}
use mathlib.Core.Bool.{Bool, true, false, cond}
use mathlib.Core.List.{[], ◌∷◌, ◌++◌, map}
use Prim.Native.Nat.{ℕ, zero, suc, ◌+◌, ◌≤◌, ◌<◌}
use native.Mathlib.Numerals.{add-one}
use native.Mathlib.Omega.{arith}
use mathlib.Core.Logic.{⊎_elim}
use lib.ListN.{length, take, get_or, length-map}
use lib.Seq.{take-suc, length-take-le}
use Rattle.model.specs.keys.Key.{Key, IsPrefix, change_prefix}
use Rattle.model.specs.keys.Order.{Element, max, lt}
use Rattle.model.specs.tables.Tables.{pivot_at}
use Rattle.model.specs.buckets.Bucket.{Entry, Bucket, translate_entry, TranslateBucket, entries_rise, kept_from, kept_places, WFTBucket}
use Rattle.model.specs.buckets.Index.{only}
use Rattle.model.proofs.Lists.{get_d_map, le_or_lt}
use Rattle.model.proofs.keys.ChangePrefix.{change_begins, change_undone, change_lt}
use Rattle.model.proofs.tables.Places.{sorted_at, sorted_of}
use Rattle.model.proofs.buckets.Bucket.{translated_wft}

-- the entries whose key begins with the prefix, as they stand
abbrev pub kept : Bucket → Key → Bucket
kept b p = only (λ (e : Entry). IsPrefix p e.key) b

module _ (p q : Key) where
  -- the renamed bucket is these, each translated
  pub renamed_kept : (b : Bucket) → TranslateBucket b p q ≡ map (translate_entry p q) (kept b p)
  unfolding TranslateBucket only
  renamed_kept [] = refl
  renamed_kept (e ∷ b) = go (IsPrefix p e.key) (renamed_kept b)
    where
      go : (t : Bool) → TranslateBucket b p q ≡ map (translate_entry p q) (kept b p)
          → cond t (translate_entry p q e ∷ TranslateBucket b p q) (TranslateBucket b p q) ≡ map (translate_entry p q) (cond t (e ∷ kept b p) (kept b p))
      go true h = ap (◌∷◌ (translate_entry p q e)) h
      go false h = h

  -- the renamed bucket has as many entries as are kept
  pub renamed_count : (b : Bucket) → length (TranslateBucket b p q) ≡ length (kept b p)
  renamed_count b = ap length (renamed_kept b) ∙ length-map (kept b p) (translate_entry p q)

  -- renaming back gives the kept entries, whole
  pub renamed_back : (b : Bucket) → TranslateBucket (TranslateBucket b p q) q p ≡ kept b p
  unfolding TranslateBucket only
  renamed_back [] = refl
  renamed_back (e ∷ b) = go (IsPrefix p e.key) refl (renamed_back b)
    where
      go : (t : Bool) → IsPrefix p e.key ≡ t → TranslateBucket (TranslateBucket b p q) q p ≡ kept b p
          → TranslateBucket (cond t (translate_entry p q e ∷ TranslateBucket b p q) (TranslateBucket b p q)) q p ≡ cond t (e ∷ kept b p) (kept b p)
      go true h r = rw (change_begins p q e.key, change_undone p q e.key h, r)
      go false h r = r

  -- what stands after one bucket is renamed after it
  pub renamed_append : (a b : Bucket) → TranslateBucket (a ++ b) p q ≡ TranslateBucket a p q ++ TranslateBucket b p q
  unfolding TranslateBucket
  renamed_append [] b = refl
  renamed_append (e ∷ a) b = go (IsPrefix p e.key) (renamed_append a b)
    where
      go : (t : Bool) → TranslateBucket (a ++ b) p q ≡ TranslateBucket a p q ++ TranslateBucket b p q
          → cond t (translate_entry p q e ∷ TranslateBucket (a ++ b) p q) (TranslateBucket (a ++ b) p q)
          ≡ cond t (translate_entry p q e ∷ TranslateBucket a p q) (TranslateBucket a p q) ++ TranslateBucket b p q
      go true h = ap (◌∷◌ (translate_entry p q e)) h
      go false h = h

-- ---- TranslateBucketSimple: the first i entries

module _ (b : Bucket) (p q : Key) where
  -- no more are kept than there are
  pub simple_most : (i : ℕ) → i ≤ length b → length (TranslateBucket (take i b) p q) ≤ i
  simple_most i h = let w = translated_wft (take i b) p q 0 (omega arith) in omega (arith, w.at_most, length-take-le i b h)

  -- the next entry is added at the end where it has the prefix
  pub simple_next : (i : ℕ) (d : Entry) → i < length b
      → TranslateBucket (take (i + 1) b) p q
      ≡ TranslateBucket (take i b) p q ++ cond (IsPrefix p (get_or b i d).key) (translate_entry p q (get_or b i d) ∷ []) []
  simple_next i d h = rw (add-one, take-suc b i d h, renamed_append p q (take i b) (get_or b i d ∷ [])) (unfold TranslateBucket in refl)

-- ---- every kept entry is there, once

-- the place of an entry with the prefix is among those kept
kept_there : (p : Key) (i : ℕ) (b : Bucket) (j : ℕ) (e : Entry) → j < length b → IsPrefix p (get_or b j e).key ≡ true
    → (m : ℕ) × (m < length (kept_from i b p)) × (get_or (kept_from i b p) m 0 ≡ i + j)
unfolding kept_from
kept_there p i [] j e h f = absurd (omega arith)
kept_there p i (x ∷ b) zero e h f = rw f (0, omega arith, omega arith)
kept_there p i (x ∷ b) (suc j) e h f = go (IsPrefix p x.key) (kept_there p (suc i) b j e (omega arith) f)
  where
    go : (t : Bool) → (m : ℕ) × (m < length (kept_from (suc i) b p)) × (get_or (kept_from (suc i) b p) m 0 ≡ suc i + j)
        → (m : ℕ) × (m < length (cond t (i ∷ kept_from (suc i) b p) (kept_from (suc i) b p))) × (get_or (cond t (i ∷ kept_from (suc i) b p) (kept_from (suc i) b p)) m 0 ≡ i + suc j)
    go true (m, l, g) = (suc m, omega arith, omega arith)
    go false (m, l, g) = (m, l, omega arith)

module _ (b : Bucket) (p q : Key) where
  wft : WFTBucket b (TranslateBucket b p q) (kept_places b p) p q 0
  unfolding kept_places
  wft = translated_wft b p q 0 (omega arith)

  -- an entry with the prefix is in the result, its key changed and its number the same
  pub renamed_there : (j : ℕ) (e : Entry) → j < length b → IsPrefix p (get_or b j e).key ≡ true
      → (m : ℕ) × (m < length (TranslateBucket b p q)) × (get_or (kept_places b p) m 0 ≡ j) × (get_or (TranslateBucket b p q) m e ≡ translate_entry p q (get_or b j e))
  unfolding kept_places
  renamed_there j e h f =
      let (m, l, g) = kept_there p 0 b j e h f in
      let n : m < length (TranslateBucket b p q) = omega (arith, wft.count) in
      let z : get_or (kept_from 0 b p) m 0 ≡ j = omega arith in
      (m, n, z, wft.translated m e n ∙ ap (λ (x : ℕ). translate_entry p q (get_or b x e)) z)

  -- an entry with the prefix is in the result only once: no two places of the result come from one place
  pub renamed_once : (m n : ℕ) → m < length (TranslateBucket b p q) → n < length (TranslateBucket b p q)
      → get_or (kept_places b p) m 0 ≡ get_or (kept_places b p) n 0 → m ≡ n
  renamed_once m n h l e = ⊎_elim less (λ (i : n < m). absurd (omega (arith, wft.rising n m i (omega (arith, wft.count))))) (le_or_lt m n)
    where
      less : m ≤ n → m ≡ n
      less i = ⊎_elim (λ (j : n ≤ m). omega arith) (λ (j : m < n). absurd (omega (arith, wft.rising m n j (omega (arith, wft.count))))) (le_or_lt n m)

  -- strictly rising entries stay strictly rising
  pub renamed_rises : entries_rise b ≡ true → entries_rise (TranslateBucket b p q) ≡ true
  unfolding entries_rise
  renamed_rises h = sorted_of (map (λ (e : Entry). Element.key e.key) (TranslateBucket b p q)) each
    where
      none : Entry
      none = record { key = []; number = [] }

      old : (i : ℕ) → i < length b → pivot_at (map (λ (e : Entry). Element.key e.key) b) i ≡ Element.key (get_or b i none).key
      old i l = get_d_map (λ (e : Entry). Element.key e.key) b i max none l

      new : (i : ℕ) → i < length (TranslateBucket b p q)
          → pivot_at (map (λ (e : Entry). Element.key e.key) (TranslateBucket b p q)) i ≡ Element.key (change_prefix p q (get_or b (get_or (kept_places b p) i 0) none).key)
      new i l = get_d_map (λ (e : Entry). Element.key e.key) (TranslateBucket b p q) i max none l ∙ ap (λ (e : Entry). Element.key e.key) (wft.translated i none l)

      each : (i : ℕ) → i + 1 < length (map (λ (e : Entry). Element.key e.key) (TranslateBucket b p q))
          → lt (pivot_at (map (λ (e : Entry). Element.key e.key) (TranslateBucket b p q)) i) (pivot_at (map (λ (e : Entry). Element.key e.key) (TranslateBucket b p q)) (i + 1)) ≡ true
      each i l =
          let n = length-map (TranslateBucket b p q) (λ (e : Entry). Element.key e.key) in
          let m = length-map b (λ (e : Entry). Element.key e.key) in
          let x = get_or (kept_places b p) i 0 in
          let y = get_or (kept_places b p) (i + 1) 0 in
          let u = wft.inside i (omega arith) in
          let v = wft.inside (i + 1) (omega arith) in
          let s = sorted_at (map (λ (e : Entry). Element.key e.key) b) x y h (wft.rising i (i + 1) (omega arith) (omega (arith, wft.count))) (omega (arith, v.1)) in
          rw (new i (omega arith), new (i + 1) (omega arith))
          (change_lt p q (get_or b x none).key (get_or b y none).key (wft.begins i none (omega arith)) (wft.begins (i + 1) none (omega arith))
          ∙ (rw (old x u.1, old y v.1) at s))
