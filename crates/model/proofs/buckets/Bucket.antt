-- "A renamed drawer keeps its order and loses no piece": WFTBucket of TranslateBucket, and what it means.
use mathlib.Core.Path.{◌≡◌, refl, ap, ◌∙◌}
use mathlib.Core.Bool.{Bool, true, false, cond}
use mathlib.Core.List.{List, [], ◌∷◌}
use Prim.Native.Nat.{ℕ, zero, suc, ◌+◌, ◌-◌, ◌≤◌, ◌<◌}
use native.Mathlib.Omega.{arith}
use lib.ListN.{length, drop, get_or, length-drop}
use lib.Seq.{get_or-drop}
use Rattle.model.specs.keys.Key.{Key, IsPrefix}
use Rattle.model.specs.buckets.Bucket.{Entry, Bucket, translate_entry, TranslateBucket, kept_from, WFTBucket}

-- the entries t come from those of b at the places xs, b's first entry being at the place i
record Kept (i : ℕ) (b t : Bucket) (xs : List ℕ) (p q : Key) : Type 0 where
  count : length t ≡ length xs
  at_most : length t ≤ length b
  inside : (j : ℕ) → j < length xs → (i ≤ get_or xs j 0) × (get_or xs j 0 < i + length b)
  rising : (j k : ℕ) → j < k → k < length xs → get_or xs j 0 < get_or xs k 0
  begins : (j : ℕ) (e : Entry) → j < length xs → IsPrefix p (get_or b (get_or xs j 0 - i) e).key ≡ true
  translated : (j : ℕ) (e : Entry) → j < length xs → get_or t j e ≡ translate_entry p q (get_or b (get_or xs j 0 - i) e)
  others : (j : ℕ) (e : Entry) → j < length b → ((m : ℕ) → m < length xs → get_or xs m 0 ≡ i + j → ⊥) → IsPrefix p (get_or b j e).key ≡ false

module _ (p q : Key) (i : ℕ) (x : Entry) (b t : Bucket) (xs : List ℕ) (r : Kept (suc i) b t xs p q) where
  -- a place after the first
  after : (j : ℕ) (e : Entry) → j < length xs → get_or (x ∷ b) (get_or xs j 0 - i) e ≡ get_or b (get_or xs j 0 - suc i) e
  after j e h = let z : get_or xs j 0 - i ≡ suc (get_or xs j 0 - suc i) = omega (arith, r.inside j h) in rw z

  -- an entry with the prefix is kept
  keep : IsPrefix p x.key ≡ true → Kept i (x ∷ b) (translate_entry p q x ∷ t) (i ∷ xs) p q
  keep h = record { count = omega (arith, r.count); at_most = omega (arith, r.at_most); inside = inside'; rising = rising'; begins = begins'; translated = translated'; others = others' }
    where
      here : (e : Entry) → get_or (x ∷ b) (i - i) e ≡ x
      here e = let z : i - i ≡ 0 = omega arith in rw z

      inside' : (j : ℕ) → j < length (i ∷ xs) → (i ≤ get_or (i ∷ xs) j 0) × (get_or (i ∷ xs) j 0 < i + length (x ∷ b))
      inside' zero l = (omega arith, omega arith)
      inside' (suc j) l = let w = r.inside j (omega arith) in (omega arith, omega arith)

      rising' : (j k : ℕ) → j < k → k < length (i ∷ xs) → get_or (i ∷ xs) j 0 < get_or (i ∷ xs) k 0
      rising' j zero l m = absurd (omega arith)
      rising' zero (suc k) l m = let w = r.inside k (omega arith) in omega arith
      rising' (suc j) (suc k) l m = r.rising j k (omega arith) (omega arith)

      begins' : (j : ℕ) (e : Entry) → j < length (i ∷ xs) → IsPrefix p (get_or (x ∷ b) (get_or (i ∷ xs) j 0 - i) e).key ≡ true
      begins' zero e l = rw (here e) h
      begins' (suc j) e l = rw (after j e (omega arith)) (r.begins j e (omega arith))

      translated' : (j : ℕ) (e : Entry) → j < length (i ∷ xs) → get_or (translate_entry p q x ∷ t) j e ≡ translate_entry p q (get_or (x ∷ b) (get_or (i ∷ xs) j 0 - i) e)
      translated' zero e l = rw (here e)
      translated' (suc j) e l = rw (after j e (omega arith)) (r.translated j e (omega arith))

      others' : (j : ℕ) (e : Entry) → j < length (x ∷ b) → ((m : ℕ) → m < length (i ∷ xs) → get_or (i ∷ xs) m 0 ≡ i + j → ⊥) → IsPrefix p (get_or (x ∷ b) j e).key ≡ false
      others' zero e l f = absurd (f 0 (omega arith) (omega arith))
      others' (suc j) e l f = r.others j e (omega arith) (λ m n u. f (suc m) (omega arith) (omega arith))

  -- one without it is passed
  skip : IsPrefix p x.key ≡ false → Kept i (x ∷ b) t xs p q
  skip h = record { count = r.count; at_most = omega (arith, r.at_most); inside = inside'; rising = r.rising; begins = begins'; translated = translated'; others = others' }
    where
      inside' : (j : ℕ) → j < length xs → (i ≤ get_or xs j 0) × (get_or xs j 0 < i + length (x ∷ b))
      inside' j l = let w = r.inside j l in (omega arith, omega arith)

      begins' : (j : ℕ) (e : Entry) → j < length xs → IsPrefix p (get_or (x ∷ b) (get_or xs j 0 - i) e).key ≡ true
      begins' j e l = rw (after j e l) (r.begins j e l)

      translated' : (j : ℕ) (e : Entry) → j < length xs → get_or t j e ≡ translate_entry p q (get_or (x ∷ b) (get_or xs j 0 - i) e)
      translated' j e l = rw (after j e l) (r.translated j e l)

      others' : (j : ℕ) (e : Entry) → j < length (x ∷ b) → ((m : ℕ) → m < length xs → get_or xs m 0 ≡ i + j → ⊥) → IsPrefix p (get_or (x ∷ b) j e).key ≡ false
      others' zero e l f = h
      others' (suc j) e l f = r.others j e (omega arith) (λ m n u. f m n (omega arith))

-- a renamed bucket has the entries kept, entry by entry
kept_from_lem : (p q : Key) (i : ℕ) (b : Bucket) → Kept i b (TranslateBucket b p q) (kept_from i b p) p q
unfolding TranslateBucket kept_from
kept_from_lem p q i [] =
    record {
      count = refl;
      at_most = omega arith;
      inside = λ j h. absurd (omega arith);
      rising = λ j k l m. absurd (omega arith);
      begins = λ j e h. absurd (omega arith);
      translated = λ j e h. absurd (omega arith);
      others = λ j e h f. absurd (omega arith);
    }
kept_from_lem p q i (x ∷ b) = go (IsPrefix p x.key) refl (kept_from_lem p q (suc i) b)
  where
    go : (s : Bool) → IsPrefix p x.key ≡ s → Kept (suc i) b (TranslateBucket b p q) (kept_from (suc i) b p) p q
        → Kept i (x ∷ b) (cond s (translate_entry p q x ∷ TranslateBucket b p q) (TranslateBucket b p q)) (cond s (i ∷ kept_from (suc i) b p) (kept_from (suc i) b p)) p q
    go true h r = keep p q i x b (TranslateBucket b p q) (kept_from (suc i) b p) r h
    go false h r = skip p q i x b (TranslateBucket b p q) (kept_from (suc i) b p) r h

module _ (b : Bucket) (p q : Key) (idx : ℕ) (h : idx ≤ length b) where
  rest : Kept idx (drop idx b) (TranslateBucket (drop idx b) p q) (kept_from idx (drop idx b) p) p q
  rest = kept_from_lem p q idx (drop idx b)

  -- a place from idx on, in the whole bucket
  whole : (x : ℕ) (e : Entry) → idx ≤ x → get_or (drop idx b) (x - idx) e ≡ get_or b x e
  whole x e l = let z : idx + (x - idx) ≡ x = omega arith in get_or-drop idx b (x - idx) e ∙ ap (λ (n : ℕ). get_or b n e) z

  -- TranslateBucketInternal's clause, for every idx: what is translated from idx on is so with the places kept
  pub translated_wft : WFTBucket b (TranslateBucket (drop idx b) p q) (kept_from idx (drop idx b) p) p q idx
  translated_wft =
      record {
        count = rest.count;
        at_most = rest.at_most;
        inside = λ i l. let w = rest.inside i (omega (arith, rest.count)) in (w.0, omega (arith, length-drop idx b));
        rising = rest.rising;
        begins = λ i e l. let m : i < length (kept_from idx (drop idx b) p) = omega (arith, rest.count) in rw (whole _ e (rest.inside i m).0) at (rest.begins i e m);
        translated = λ i e l. let m : i < length (kept_from idx (drop idx b) p) = omega (arith, rest.count) in rest.translated i e m ∙ ap (translate_entry p q) (whole _ e (rest.inside i m).0);
        others = others';
      }
    where
      others' : (j : ℕ) (e : Entry) → idx ≤ j → j < length b
          → ((i : ℕ) → i < length (kept_from idx (drop idx b) p) → get_or (kept_from idx (drop idx b) p) i 0 ≡ j → ⊥) → IsPrefix p (get_or b j e).key ≡ false
      others' j e l m f = rw (whole j e l) at (rest.others (j - idx) e (omega (arith, length-drop idx b)) (λ i n u. f i n (omega arith)))
