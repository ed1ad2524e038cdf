-- The last place that passes a test, and tables whose pivots rise strictly.
use mathlib.Core.Path.{◌≡◌, refl, sym, ◌∙◌}
use mathlib.Core.Logic.{⊎_elim}
use mathlib.Core.Bool.{Bool, true, false, cond, not, ◌&&◌, not-not, true≢false}
use mathlib.Core.List.{List, [], ◌∷◌}
use Prim.Native.Nat.{ℕ, zero, suc, ◌+◌, ◌-◌, ◌≤◌, ◌<◌}
use native.Mathlib.Nat.{eq-or-lt_of_le}
use native.Mathlib.Omega.{arith}
use borrow.Author.Tests.{lt-ltb, le-ltb}
use lib.Dec.{ltb}
use lib.ListN.{length, get_or}
use Rattle.model.specs.keys.Key.{Key}
use Rattle.model.specs.keys.Order.{Element, key, lte, lt, passes, last_place}
use Rattle.model.specs.tables.Tables.{PivotTable, pivot_at, last_pivot, rises_from, IsStrictlySorted, BoundedKey, ValidLeftCutOffKey}
use Rattle.model.proofs.Lists.{le_or_lt}
use Rattle.model.proofs.keys.Order.{lte_refl, lte_trans, lt_lte, lt_trans_lte, lte_trans_lt}
use Rattle.model.proofs.keys.Key.{both}

-- ---- the last place

-- n is one more than the last place that passes the test, or 0 where none does
record Ends {A : Type 0} (test : A → Bool) (xs : List A) (d : A) (n : ℕ) : Type 0 where
  most : n ≤ length xs
  last : 0 < n → test (get_or xs (n - 1) d) ≡ true
  after : (i : ℕ) → n ≤ i → i < length xs → test (get_or xs i d) ≡ false

-- last_place is such a number
ends : {A : Type 0} (test : A → Bool) (xs : List A) (d : A) → Ends test xs d (last_place test xs)
unfolding last_place
ends test [] d = record { most = omega arith; last = λ h. absurd (omega arith); after = λ i h k. absurd (omega arith) }
ends test (x ∷ xs) d = go (last_place test xs) (test x) refl (ends test xs d)
  where
    later : (n : ℕ) → Ends test xs d n → (i : ℕ) → suc n ≤ i → i < length (x ∷ xs) → test (get_or (x ∷ xs) i d) ≡ false
    later n w zero h k = absurd (omega arith)
    later n w (suc i) h k = w.after i (omega arith) (omega arith)

    none : test x ≡ false → Ends test xs d 0 → (i : ℕ) → i < length (x ∷ xs) → test (get_or (x ∷ xs) i d) ≡ false
    none e w zero k = e
    none e w (suc i) k = w.after i (omega arith) (omega arith)

    go : (n : ℕ) (b : Bool) → test x ≡ b → Ends test xs d n → Ends test (x ∷ xs) d (cond (ltb 0 n) (suc n) (cond b 1 0))
    go zero true e w = record { most = omega arith; last = λ h. e; after = later 0 w }
    go zero false e w = record { most = omega arith; last = λ h. absurd (omega arith); after = λ i h k. none e w i k }
    go (suc n) b e w =
        let q : suc n - 1 ≡ n = omega arith in
        let q' : suc (suc n) - 1 ≡ suc n = omega arith in
        rw (lt-ltb 0 (suc n) (omega arith))
        (record { most = omega (arith, w.most); last = λ h. rw q' (rw q at (w.last (omega arith))); after = later (suc n) w })

-- where all that passes one test passes another, the number of the first is not above that of the other
ends_le : {A : Type 0} (test test' : A → Bool) (xs : List A) (d : A) (m n : ℕ)
    → ((x : A) → test x ≡ true → test' x ≡ true) → Ends test xs d m → Ends test' xs d n → m ≤ n
ends_le test test' xs d m n f v w = ⊎_elim (λ h. h) (λ h. absurd (no_later h)) (le_or_lt m n)
  where
    no_later : n < m → ⊥
    no_later h =
        true≢false (sym (f (get_or xs (m - 1) d) (v.last (omega arith))) ∙ w.after (m - 1) (omega arith) (omega (arith, v.most)))

-- where all that passes one test passes another, the last place of the other is not before
pub place_le : {A : Type 0} (test test' : A → Bool) (xs : List A)
    → ((x : A) → test x ≡ true → test' x ≡ true) → last_place test xs ≤ last_place test' xs
unfolding last_place
place_le test test' [] f = omega arith
place_le test test' (x ∷ xs) f =
    ends_le test test' (x ∷ xs) x (last_place test (x ∷ xs)) (last_place test' (x ∷ xs)) f (ends test (x ∷ xs) x) (ends test' (x ∷ xs) x)

-- the last place that passes is inside the list
pub place_most : {A : Type 0} (test : A → Bool) (xs : List A) → last_place test xs ≤ length xs
unfolding last_place
place_most test [] = omega arith
place_most test (x ∷ xs) = (ends test (x ∷ xs) x).most

module _ {A : Type 0} (test : A → Bool) (xs : List A) (d : A) where
  -- it passes the test
  pub place_passes : 0 < last_place test xs → test (get_or xs (last_place test xs - 1) d) ≡ true
  place_passes = (ends test xs d).last

  -- no place after it does
  pub place_after : (i : ℕ) → last_place test xs ≤ i → i < length xs → test (get_or xs i d) ≡ false
  place_after = (ends test xs d).after

  -- the last place that passes is the only one that passes with none after it passing
  pub place_is : (n : ℕ) → n ≤ length xs → (0 < n → test (get_or xs (n - 1) d) ≡ true)
      → ((i : ℕ) → n ≤ i → i < length xs → test (get_or xs i d) ≡ false) → last_place test xs ≡ n
  place_is n h f g =
      let m = last_place test xs in
      let v = ends test xs d in
      let w : Ends test xs d n = record { most = h; last = f; after = g } in
      omega (arith, ends_le test test xs d m n (λ x k. k) v w, ends_le test test xs d n m (λ x k. k) w v)

-- ---- the order's tests

-- what is not above an element that passes, passes
pub passes_down : (strict : Bool) (e p q : Element) → lte p q ≡ true → passes strict e q ≡ true → passes strict e p ≡ true
passes_down true e p q h k = lte_trans_lt p q e h k
passes_down false e p q h k = lte_trans p q e h k

-- what is not below an element that fails, fails
pub passes_up : (strict : Bool) (e p q : Element) → lte p q ≡ true → passes strict e p ≡ false → passes strict e q ≡ false
passes_up strict e p q h k = go (passes strict e q) refl
  where
    go : (t : Bool) → passes strict e q ≡ t → t ≡ false
    go true f = absurd (true≢false (sym (passes_down strict e p q h f) ∙ k))
    go false f = refl

-- what passes for an element passes for each that is not below it
pub passes_more : (strict : Bool) (e e' p : Element) → lte e e' ≡ true → passes strict e p ≡ true → passes strict e' p ≡ true
passes_more true e e' p h k = lt_trans_lte p e e' k h
passes_more false e e' p h k = lte_trans p e e' k h

-- ---- tables whose pivots rise strictly

-- the first pivot is below the second
pub sorted_head : (p q : Element) (pt : PivotTable) → IsStrictlySorted (p ∷ q ∷ pt) ≡ true → lt p q ≡ true
unfolding IsStrictlySorted rises_from
sorted_head p q pt h = (both (lt p q) (rises_from q pt) h).0

-- the pivots after the first rise strictly
pub sorted_tail : (p : Element) (pt : PivotTable) → IsStrictlySorted (p ∷ pt) ≡ true → IsStrictlySorted pt ≡ true
unfolding IsStrictlySorted rises_from
sorted_tail p [] h = refl
sorted_tail p (q ∷ pt) h = (both (lt p q) (rises_from q pt) h).1

-- the first pivot is below each other
first_below : (p : Element) (pt : PivotTable) (j : ℕ) → IsStrictlySorted (p ∷ pt) ≡ true → j < length pt → lt p (pivot_at pt j) ≡ true
first_below p [] j s h = absurd (omega arith)
first_below p (q ∷ pt) zero s h = sorted_head p q pt s
first_below p (q ∷ pt) (suc j) s h =
    lt_trans_lte p q (pivot_at pt j) (sorted_head p q pt s)
    (lt_lte q (pivot_at pt j) (first_below q pt j (sorted_tail p (q ∷ pt) s) (omega arith)))

-- a pivot is below each later one
pub sorted_at : (pt : PivotTable) (i j : ℕ) → IsStrictlySorted pt ≡ true → i < j → j < length pt → lt (pivot_at pt i) (pivot_at pt j) ≡ true
sorted_at [] i j s h k = absurd (omega arith)
sorted_at (p ∷ pt) zero zero s h k = absurd (omega arith)
sorted_at (p ∷ pt) zero (suc j) s h k = first_below p pt j s (omega arith)
sorted_at (p ∷ pt) (suc i) zero s h k = absurd (omega arith)
sorted_at (p ∷ pt) (suc i) (suc j) s h k = sorted_at pt i j (sorted_tail p pt s) (omega arith) (omega arith)

rises_of : (p : Element) (pt : PivotTable) → ((i : ℕ) → i + 1 < length (p ∷ pt) → lt (pivot_at (p ∷ pt) i) (pivot_at (p ∷ pt) (i + 1)) ≡ true)
    → rises_from p pt ≡ true
unfolding rises_from
rises_of p [] f = refl
rises_of p (q ∷ pt) f =
    rw (f 0 (omega arith)) (rises_of q pt (λ i h. let z : suc i + 1 ≡ suc (i + 1) = omega arith in rw z at (f (suc i) (omega arith))))

-- pivots each of which is below the next one rise
pub sorted_of : (pt : PivotTable) → ((i : ℕ) → i + 1 < length pt → lt (pivot_at pt i) (pivot_at pt (i + 1)) ≡ true) → IsStrictlySorted pt ≡ true
unfolding IsStrictlySorted
sorted_of [] f = refl
sorted_of (p ∷ pt) f = rises_of p pt f

-- of pivots that rise none is above itself or above a later one
pub sorted_lte : (pt : PivotTable) (i j : ℕ) → IsStrictlySorted pt ≡ true → i ≤ j → j < length pt → lte (pivot_at pt i) (pivot_at pt j) ≡ true
sorted_lte pt i j s h k =
    ⊎_elim (λ e. rw e (lte_refl (pivot_at pt j))) (λ l. lt_lte (pivot_at pt i) (pivot_at pt j) (sorted_at pt i j s l k)) (eq-or-lt_of_le h)

-- ---- the last place in such a table

module _ (strict : Bool) (e : Element) (pt : PivotTable) where
  -- the place is where a scan from the front stops, at the first pivot that fails
  pub place_turn : (i : ℕ) → IsStrictlySorted pt ≡ true → i < length pt → (0 < i → passes strict e (pivot_at pt (i - 1)) ≡ true)
      → passes strict e (pivot_at pt i) ≡ false → last_place (passes strict e) pt ≡ i
  place_turn i s h f g =
      place_is (passes strict e) pt _ i (omega arith) f
      (λ j k l. passes_up strict e (pivot_at pt i) (pivot_at pt j) (sorted_lte pt i j s k l) g)

  -- the place is the end where the last pivot passes
  pub place_all : 0 < length pt → passes strict e (last_pivot pt) ≡ true → last_place (passes strict e) pt ≡ length pt
  place_all h f = place_is (passes strict e) pt _ (length pt) (omega arith) (λ k. f) (λ i k l. absurd (omega arith))

  -- a pivot passes where it stands before that place
  pub place_at_lem : (i : ℕ) → IsStrictlySorted pt ≡ true → i < length pt
      → passes strict e (pivot_at pt i) ≡ ltb i (last_place (passes strict e) pt)
  place_at_lem i s h = ⊎_elim outside inside (le_or_lt n i)
    where
      n : ℕ
      n = last_place (passes strict e) pt

      outside : n ≤ i → passes strict e (pivot_at pt i) ≡ ltb i n
      outside k = place_after (passes strict e) pt _ i k h ∙ sym (le-ltb i n k)

      inside : i < n → passes strict e (pivot_at pt i) ≡ ltb i n
      inside k =
          let m = place_most (passes strict e) pt in
          passes_down strict e (pivot_at pt i) (pivot_at pt (n - 1)) (sorted_lte pt i (n - 1) s (omega arith) (omega arith))
          (place_passes (passes strict e) pt _ (omega arith))
          ∙ sym (lt-ltb i n k)

-- the first pivot passes and the last does not
abbrev pub within : Bool → Element → PivotTable → Bool
within strict e pt = passes strict e (pivot_at pt 0) && not (passes strict e (last_pivot pt))

-- that is, some pivots pass and not all
pub within_place : (strict : Bool) (e : Element) (pt : PivotTable) → IsStrictlySorted pt ≡ true → 2 ≤ length pt
    → within strict e pt ≡ (ltb 0 (last_place (passes strict e) pt) && ltb (last_place (passes strict e) pt) (length pt))
within_place strict e pt s h = cc (place_at_lem strict e pt 0 s (omega arith), place_at_lem strict e pt (length pt - 1) s (omega arith), end)
  where
    n : ℕ
    n = last_place (passes strict e) pt

    end : not (ltb (length pt - 1) n) ≡ ltb n (length pt)
    end =
        ⊎_elim (λ (k : length pt ≤ n). rw (le-ltb n (length pt) k, lt-ltb (length pt - 1) n (omega arith)))
        (λ (k : n < length pt). rw (lt-ltb n (length pt) k, le-ltb (length pt - 1) n (omega arith)))
        (le_or_lt (length pt) n)

module _ (pt : PivotTable) (k : Key) where
  -- a key is bounded where it is within the table, not strictly
  pub bounded_within : BoundedKey pt k ≡ within false (key k) pt
  unfolding BoundedKey
  bounded_within = refl

  -- a key cuts off on the left where it is within the table, strictly
  pub valid_within : ValidLeftCutOffKey pt k ≡ within true (key k) pt
  unfolding ValidLeftCutOffKey
  valid_within = rw not-not

  -- a key is bounded where some pivots, and not all, are not above it
  pub bounded_place : IsStrictlySorted pt ≡ true → 2 ≤ length pt
      → BoundedKey pt k ≡ (ltb 0 (last_place (passes false (key k)) pt) && ltb (last_place (passes false (key k)) pt) (length pt))
  bounded_place s h = bounded_within ∙ within_place false (key k) pt s h

  -- a key cuts off on the left where some pivots, and not all, are below it
  pub valid_place : IsStrictlySorted pt ≡ true → 2 ≤ length pt
      → ValidLeftCutOffKey pt k ≡ (ltb 0 (last_place (passes true (key k)) pt) && ltb (last_place (passes true (key k)) pt) (length pt))
  valid_place s h = valid_within ∙ within_place true (key k) pt s h
