-- The pivots strictly between two elements: they rise, narrowing twice is narrowing once, and they stand together in the table.
use mathlib.Core.Path.{◌≡◌, refl, sym, ap, ◌∙◌}
use mathlib.Core.Bool.{Bool, true, false, cond, not, ◌&&◌, and-false, true≢false}
use mathlib.Core.List.{[], ◌∷◌, ◌++◌, append-nil}
use Prim.Native.Nat.{ℕ, zero, suc, ◌<◌}
use native.Mathlib.Omega.{arith}
use borrow.Author.Tests.{lt-ltb}
use lib.Dec.{ltb}
use lib.ListN.{length, take, drop}
use lib.Seq.{take-nil, drop-nil}
use Rattle.model.specs.keys.Order.{Element, max, lte, lt, passes, last_place, BytesE}
use Rattle.model.specs.tables.Tables.{PivotTable, pivot_at, all, rises_from, IsStrictlySorted, BytesT}
use Rattle.model.specs.cuts.Cuts.{strictly_between}
use Rattle.model.proofs.keys.Order.{lt_lte, lt_trans_lte, lte_trans_lt}
use Rattle.model.proofs.keys.Key.{both}
use Rattle.model.proofs.tables.Places.{place_is, passes_up, sorted_tail, sorted_lte}

-- each pivot is then of bytes
pub bytes_at : (pt : PivotTable) (i : ℕ) → BytesT pt → BytesE (pivot_at pt i)
bytes_at [] i h = tt
bytes_at (p ∷ pt) zero h = h.0
bytes_at (p ∷ pt) (suc i) h = bytes_at pt i h.1

-- ---- what rises

-- what rises from an element rises from each below it
rises_below : (p q : Element) (pt : PivotTable) → lt p q ≡ true → rises_from q pt ≡ true → rises_from p pt ≡ true
unfolding rises_from
rises_below p q [] h s = refl
rises_below p q (r ∷ pt) h s =
    let w = both (lt q r) (rises_from r pt) s in
    rw (lt_trans_lte p q r h (lt_lte q r w.0)) w.1

module _ (a b : Element) where
  -- what rises from an element below b does so up to b where only the pivots strictly between are kept
  between_rises : (p : Element) (pt : PivotTable) → lt p b ≡ true → rises_from p pt ≡ true
      → rises_from p (strictly_between a b pt ++ (b ∷ [])) ≡ true
  unfolding rises_from strictly_between
  between_rises p [] h s = rw h
  between_rises p (q ∷ pt) h s =
      let w = both (lt p q) (rises_from q pt) s in
      go (lt a q && lt q b) refl w.0 (λ k. between_rises q pt k w.1) (between_rises p pt h (rises_below p q pt w.0 w.1))
    where
      go : (t : Bool) → (lt a q && lt q b) ≡ t → lt p q ≡ true
          → (lt q b ≡ true → rises_from q (strictly_between a b pt ++ (b ∷ [])) ≡ true)
          → rises_from p (strictly_between a b pt ++ (b ∷ [])) ≡ true
          → rises_from p (cond t (q ∷ strictly_between a b pt) (strictly_between a b pt) ++ (b ∷ [])) ≡ true
      go true e l f r = rw l (f (both (lt a q) (lt q b) e).1)
      go false e l f r = r

  -- the pivots strictly between rise from a up to b
  pub cut_rises : (pt : PivotTable) → lt a b ≡ true → IsStrictlySorted pt ≡ true
      → rises_from a (strictly_between a b pt ++ (b ∷ [])) ≡ true
  unfolding IsStrictlySorted rises_from strictly_between
  cut_rises [] h s = rw h
  cut_rises (q ∷ pt) h s = go (lt a q && lt q b) refl (cut_rises pt h (sorted_tail q pt s))
    where
      go : (t : Bool) → (lt a q && lt q b) ≡ t → rises_from a (strictly_between a b pt ++ (b ∷ [])) ≡ true
          → rises_from a (cond t (q ∷ strictly_between a b pt) (strictly_between a b pt) ++ (b ∷ [])) ≡ true
      go true e r = let w = both (lt a q) (lt q b) e in rw w.0 (between_rises q pt w.1 s)
      go false e r = r

-- ---- narrowing

-- the pivots strictly between, in a table and then another
between_append : (a b : Element) (xs ys : PivotTable) → strictly_between a b (xs ++ ys) ≡ strictly_between a b xs ++ strictly_between a b ys
unfolding strictly_between
between_append a b [] ys = refl
between_append a b (p ∷ xs) ys = go (lt a p && lt p b) (between_append a b xs ys)
  where
    go : (t : Bool) → strictly_between a b (xs ++ ys) ≡ strictly_between a b xs ++ strictly_between a b ys
        → cond t (p ∷ strictly_between a b (xs ++ ys)) (strictly_between a b (xs ++ ys))
        ≡ cond t (p ∷ strictly_between a b xs) (strictly_between a b xs) ++ strictly_between a b ys
    go true e = ap (◌∷◌ p) e
    go false e = e

-- a range within a range
pub record Within (a b a' b' : Element) : Type 0 where
  pub after : lte a a' ≡ true
  pub before : lte b' b ≡ true

module _ (a b a' b' : Element) (w : Within a b a' b') where
  -- what is strictly between in the narrower range is so in the wider
  wider : (p : Element) → (lt a p && lt p b) ≡ false → (lt a' p && lt p b') ≡ false
  wider p f = go (lt a' p) (lt p b') refl refl
    where
      go : (t u : Bool) → lt a' p ≡ t → lt p b' ≡ u → (t && u) ≡ false
      go true true h k =
          absurd (true≢false (sym (rw (lte_trans_lt a a' p w.after h) (lt_trans_lte p b' b k w.before)) ∙ f))
      go true false h k = refl
      go false u h k = refl

  -- narrowing twice is narrowing once
  between_twice : (pt : PivotTable) → strictly_between a' b' (strictly_between a b pt) ≡ strictly_between a' b' pt
  unfolding strictly_between
  between_twice [] = refl
  between_twice (p ∷ pt) = go (lt a p && lt p b) refl (between_twice pt)
    where
      go : (t : Bool) → (lt a p && lt p b) ≡ t → strictly_between a' b' (strictly_between a b pt) ≡ strictly_between a' b' pt
          → strictly_between a' b' (cond t (p ∷ strictly_between a b pt) (strictly_between a b pt)) ≡ strictly_between a' b' (p ∷ pt)
      go true e r = rw r
      go false e r = rw (wider p e) r

  -- and the ends of the wider range are not strictly inside the narrower
  pub cut_twice : (pt : PivotTable) → strictly_between a' b' (a ∷ strictly_between a b pt ++ (b ∷ [])) ≡ strictly_between a' b' pt
  unfolding strictly_between
  cut_twice pt =
      rw (w.after, between_append a' b' (strictly_between a b pt) (b ∷ []), between_twice pt, w.before, and-false (lt a' b), append-nil)

-- ---- the pivots strictly between stand together

-- where a pivot fails, none of those after it passes
none_pass : (strict : Bool) (e p : Element) (pt : PivotTable) → IsStrictlySorted (p ∷ pt) ≡ true
    → passes strict e p ≡ false → last_place (passes strict e) pt ≡ 0
none_pass strict e p pt s h =
    place_is (passes strict e) pt max 0 (omega arith) (λ k. absurd (omega arith))
    (λ i k l. passes_up strict e p (pivot_at pt i) (sorted_lte (p ∷ pt) 0 (suc i) s (omega arith) (omega arith)) h)

-- the place counts the pivots that pass, from the front
place_cons : (strict : Bool) (e p : Element) (pt : PivotTable) → IsStrictlySorted (p ∷ pt) ≡ true
    → last_place (passes strict e) (p ∷ pt) ≡ cond (passes strict e p) (suc (last_place (passes strict e) pt)) 0
unfolding last_place
place_cons strict e p pt s = go (passes strict e p) refl (last_place (passes strict e) pt) refl
  where
    go : (t : Bool) → passes strict e p ≡ t → (n : ℕ) → last_place (passes strict e) pt ≡ n
        → cond (ltb 0 n) (suc n) (cond t 1 0) ≡ cond t (suc n) 0
    go true h zero k = refl
    go true h (suc n) k = rw (lt-ltb 0 (suc n) (omega arith))
    go false h n k = let w : n ≡ 0 = sym k ∙ none_pass strict e p pt s h in rw w

-- the pivots strictly between a and b stand from the first above a to the last below b
pub between_slice : (a b : Element) (pt : PivotTable) → IsStrictlySorted pt ≡ true
    → strictly_between a b pt ≡ drop (last_place (passes false a) pt) (take (last_place (passes true b) pt) pt)
unfolding strictly_between
between_slice a b [] s = rw (take-nil (last_place (passes true b) []), drop-nil (last_place (passes false a) []))
between_slice a b (p ∷ pt) s =
    rw (place_cons false a p pt s, place_cons true b p pt s)
    (go (lte p a) (lt p b) refl refl (between_slice a b pt (sorted_tail p pt s)))
  where
    n : ℕ
    n = last_place (passes false a) pt

    m : ℕ
    m = last_place (passes true b) pt

    go : (t u : Bool) → lte p a ≡ t → lt p b ≡ u → strictly_between a b pt ≡ drop n (take m pt)
        → cond (not t && u) (p ∷ strictly_between a b pt) (strictly_between a b pt)
        ≡ drop (cond t (suc n) 0) (take (cond u (suc m) 0) (p ∷ pt))
    go true true h k e = e
    go true false h k e = e ∙ rw (none_pass true b p pt s k, drop-nil n)
    go false true h k e = ap (◌∷◌ p) (e ∙ rw (none_pass false a p pt s h))
    go false false h k e = e ∙ rw (none_pass false a p pt s h, none_pass true b p pt s k)

-- ---- what is kept

module _ (a b : Element) where
  -- a pivot strictly between is kept
  pub kept : (pt : PivotTable) (j : ℕ) → j < length pt → lt a (pivot_at pt j) ≡ true → lt (pivot_at pt j) b ≡ true
      → (i : ℕ) × (i < length (strictly_between a b pt)) × (pivot_at (strictly_between a b pt) i ≡ pivot_at pt j)
  unfolding strictly_between
  kept [] j h k l = absurd (omega arith)
  kept (p ∷ pt) zero h k l = rw (k, l) (0, omega arith, refl)
  kept (p ∷ pt) (suc j) h k l = go (lt a p && lt p b) (kept pt j (omega arith) k l)
    where
      sub : PivotTable
      sub = strictly_between a b pt

      go : (t : Bool) → (i : ℕ) × (i < length sub) × (pivot_at sub i ≡ pivot_at pt j)
          → (i : ℕ) × (i < length (cond t (p ∷ sub) sub)) × (pivot_at (cond t (p ∷ sub) sub) i ≡ pivot_at pt j)
      go true w = (suc w.0, omega (arith, w.1), w.2)
      go false w = w

  -- what holds of all pivots holds of those
  pub all_between : (test : Element → Bool) (pt : PivotTable) → all test pt ≡ true → all test (strictly_between a b pt) ≡ true
  unfolding all strictly_between
  all_between test [] h = refl
  all_between test (p ∷ pt) h = let w = both (test p) (all test pt) h in go (lt a p && lt p b) w.0 (all_between test pt w.1)
    where
      go : (t : Bool) → test p ≡ true → all test (strictly_between a b pt) ≡ true
          → all test (cond t (p ∷ strictly_between a b pt) (strictly_between a b pt)) ≡ true
      go true k r = rw k r
      go false k r = r

  -- the pivots strictly between two elements are bytes where all pivots are
  pub bytes_between : (pt : PivotTable) → BytesT pt → BytesT (strictly_between a b pt)
  unfolding strictly_between
  bytes_between [] h = tt
  bytes_between (p ∷ pt) h = go (lt a p && lt p b) h.0 (bytes_between pt h.1)
    where
      go : (t : Bool) → BytesE p → BytesT (strictly_between a b pt) → BytesT (cond t (p ∷ strictly_between a b pt) (strictly_between a b pt))
      go true k r = (k, r)
      go false k r = r
