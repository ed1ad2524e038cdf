-- Two keys in two parts each: the first parts decide, or else the rest does. Two keys padded to one length: the padded ones decide, or else their lengths do.
use mathlib.Core.Path.{◌≡◌, refl, sym}
use mathlib.Core.Bool.{Bool, true, false, cond, not}
use mathlib.Core.List.{[], ◌∷◌}
use Prim.Native.Nat.{ℕ, zero, suc, ◌≤◌}
use native.Mathlib.Omega.{arith}
use borrow.Author.Tests.{eqb-true, ltb-true, leb-true, leb-false, le-leb, lt-leb}
use lib.Dec.{eqb, ltb, leb}
use lib.IntN.{pos, negsuc}
use lib.ListN.{length, take, drop}
use Rattle.model.specs.keys.Key.{Key}
use Rattle.model.specs.keys.Order.{key, lte_key, lte, cmp}
use Rattle.model.specs.records.Record.{all_zero}
use Rattle.model.proofs.keys.Key.{both}

-- p decides unless q holds too, and then r does
abbrev unless_tie : Bool → Bool → Bool → Bool
unless_tie p q r = cond p (cond q r true) false

-- ---- two parts

-- not above, by the first n bytes or else by the rest
lte_parts : (n : ℕ) (a b : Key) → n ≤ length a → n ≤ length b
    → lte_key a b ≡ unless_tie (lte_key (take n a) (take n b)) (lte_key (take n b) (take n a)) (lte_key (drop n a) (drop n b))
unfolding lte_key
lte_parts zero a b h k = refl
lte_parts (suc n) [] b h k = absurd (omega arith)
lte_parts (suc n) (x ∷ a) [] h k = absurd (omega arith)
lte_parts (suc n) (x ∷ a) (y ∷ b) h k = go (ltb x y) (ltb y x) refl refl (lte_parts n a b (omega arith) (omega arith))
  where
    go : (s t : Bool) → ltb x y ≡ s → ltb y x ≡ t
        → lte_key a b ≡ unless_tie (lte_key (take n a) (take n b)) (lte_key (take n b) (take n a)) (lte_key (drop n a) (drop n b))
        → cond s true (cond t false (lte_key a b))
        ≡ unless_tie (cond s true (cond t false (lte_key (take n a) (take n b)))) (cond t true (cond s false (lte_key (take n b) (take n a)))) (lte_key (drop n a) (drop n b))
    go true true e f r = absurd (omega (arith, ltb-true x y e, ltb-true y x f))
    go true false e f r = refl
    go false true e f r = refl
    go false false e f r = r

-- compare, by the two tests that decide unless they tie
module _ (a b p q : Key) (r s : Bool) (e : lte_key a b ≡ unless_tie (lte_key p q) (lte_key q p) r) (f : lte_key b a ≡ unless_tie (lte_key q p) (lte_key p q) s) where
  decided : (cmp (key p) (key q) ≡ pos 0 → ⊥) → cmp (key a) (key b) ≡ cmp (key p) (key q)
  unfolding cmp lte
  decided d = rw (e, f) (go (lte_key p q) (lte_key q p) d)
    where
      go : (t u : Bool) → (cond (not u) (negsuc 0) (cond (not t) (pos 1) (pos 0)) ≡ pos 0 → ⊥)
          → cond (not (unless_tie u t s)) (negsuc 0) (cond (not (unless_tie t u r)) (pos 1) (pos 0)) ≡ cond (not u) (negsuc 0) (cond (not t) (pos 1) (pos 0))
      go true true d = absurd (d refl)
      go true false d = refl
      go false true d = refl
      go false false d = refl

  tied : cmp (key p) (key q) ≡ pos 0 → cmp (key a) (key b) ≡ cond (not s) (negsuc 0) (cond (not r) (pos 1) (pos 0))
  unfolding cmp lte
  tied d = rw (e, f) (go (lte_key p q) (lte_key q p) d)
    where
      go : (t u : Bool) → cond (not u) (negsuc 0) (cond (not t) (pos 1) (pos 0)) ≡ pos 0
          → cond (not (unless_tie u t s)) (negsuc 0) (cond (not (unless_tie t u r)) (pos 1) (pos 0)) ≡ cond (not s) (negsuc 0) (cond (not r) (pos 1) (pos 0))
      go true true d = refl
      go true false d = cc d
      go false true d = cc d
      go false false d = cc d

module _ (n : ℕ) (a b : Key) (h : n ≤ length a) (k : n ≤ length b) where
  -- where the first n bytes differ they decide
  pub first_decides : (cmp (key (take n a)) (key (take n b)) ≡ pos 0 → ⊥) → cmp (key a) (key b) ≡ cmp (key (take n a)) (key (take n b))
  first_decides = decided a b (take n a) (take n b) (lte_key (drop n a) (drop n b)) (lte_key (drop n b) (drop n a)) (lte_parts n a b h k) (lte_parts n b a k h)

  -- where the first n bytes agree the rest decides
  pub rest_decides : cmp (key (take n a)) (key (take n b)) ≡ pos 0 → cmp (key a) (key b) ≡ cmp (key (drop n a)) (key (drop n b))
  unfolding cmp lte
  rest_decides d =
      tied a b (take n a) (take n b) (lte_key (drop n a) (drop n b)) (lte_key (drop n b) (drop n a)) (lte_parts n a b h k) (lte_parts n b a k h) d

-- ---- padded with zeros

-- zeros are not above what has as many bytes
zeros_least : (a b : Key) → length a ≡ length b → all_zero a ≡ true → lte_key a b ≡ true
unfolding lte_key all_zero
zeros_least [] b e z = refl
zeros_least (x ∷ a) [] e z = absurd (omega arith)
zeros_least (x ∷ a) (y ∷ b) e z =
    let w = both (eqb x 0) (all_zero a) z in
    let v = eqb-true x 0 w.0 in
    go (ltb x y) (ltb y x) refl (zeros_least a b (omega arith) w.1) v
  where
    go : (s t : Bool) → ltb y x ≡ t → lte_key a b ≡ true → x ≡ 0 → cond s true (cond t false (lte_key a b)) ≡ true
    go true t f r v = refl
    go false true f r v = absurd (omega (arith, ltb-true y x f))
    go false false f r v = r

-- one byte more on both sides
more_both : (n m : ℕ) → leb (suc n) (suc m) ≡ leb n m
more_both n m = go (leb n m) refl
  where
    go : (t : Bool) → leb n m ≡ t → leb (suc n) (suc m) ≡ t
    go true e = le-leb (suc n) (suc m) (omega (arith, leb-true n m e))
    go false e = lt-leb (suc n) (suc m) (omega (arith, leb-false n m e))

-- not above, by the padded keys or else by the lengths
lte_padded : (a b : Key) (n m : ℕ) → length a ≡ length b → n ≤ length a → m ≤ length b → all_zero (drop n a) ≡ true → all_zero (drop m b) ≡ true
    → lte_key (take n a) (take m b) ≡ unless_tie (lte_key a b) (lte_key b a) (leb n m)
unfolding lte_key
lte_padded [] [] zero zero e h k p q = refl
lte_padded [] [] (suc n) m e h k p q = absurd (omega arith)
lte_padded [] [] zero (suc m) e h k p q = absurd (omega arith)
lte_padded [] (y ∷ b) n m e h k p q = absurd (omega arith)
lte_padded (x ∷ a) [] n m e h k p q = absurd (omega arith)
lte_padded (x ∷ a) (y ∷ b) zero zero e h k p q = rw (zeros_least (x ∷ a) (y ∷ b) e p, zeros_least (y ∷ b) (x ∷ a) (sym e) q)
lte_padded (x ∷ a) (y ∷ b) zero (suc m) e h k p q =
    rw (zeros_least (x ∷ a) (y ∷ b) e p, le-leb 0 (suc m) (omega arith)) (go (lte_key (y ∷ b) (x ∷ a)))
  where
    go : (t : Bool) → true ≡ cond t true true
    go true = refl
    go false = refl
lte_padded (x ∷ a) (y ∷ b) (suc n) zero e h k p q =
    rw (zeros_least (y ∷ b) (x ∷ a) (sym e) q, lt-leb (suc n) 0 (omega arith)) (go (lte_key (x ∷ a) (y ∷ b)))
  where
    go : (t : Bool) → false ≡ cond t false false
    go true = refl
    go false = refl
lte_padded (x ∷ a) (y ∷ b) (suc n) (suc m) e h k p q =
    rw (more_both n m) (go (ltb x y) (ltb y x) refl refl (lte_padded a b n m (omega arith) (omega arith) (omega arith) p q))
  where
    go : (s t : Bool) → ltb x y ≡ s → ltb y x ≡ t
        → lte_key (take n a) (take m b) ≡ unless_tie (lte_key a b) (lte_key b a) (leb n m)
        → cond s true (cond t false (lte_key (take n a) (take m b)))
        ≡ unless_tie (cond s true (cond t false (lte_key a b))) (cond t true (cond s false (lte_key b a))) (leb n m)
    go true true e f r = absurd (omega (arith, ltb-true x y e, ltb-true y x f))
    go true false e f r = refl
    go false true e f r = refl
    go false false e f r = r

module _ (a b : Key) (n m : ℕ) (e : length a ≡ length b) (h : n ≤ length a) (k : m ≤ length b) (p : all_zero (drop n a) ≡ true) (q : all_zero (drop m b) ≡ true) where
  -- where the padded keys differ they decide
  pub padded_decides : (cmp (key a) (key b) ≡ pos 0 → ⊥) → cmp (key (take n a)) (key (take m b)) ≡ cmp (key a) (key b)
  padded_decides =
      decided (take n a) (take m b) a b (leb n m) (leb m n) (lte_padded a b n m e h k p q) (lte_padded b a m n (sym e) k h q p)

  -- where the padded keys agree the lengths decide
  pub length_decides : cmp (key a) (key b) ≡ pos 0 → cmp (key (take n a)) (key (take m b)) ≡ cond (not (leb m n)) (negsuc 0) (cond (not (leb n m)) (pos 1) (pos 0))
  length_decides =
      tied (take n a) (take m b) a b (leb n m) (leb m n) (lte_padded a b n m e h k p q) (lte_padded b a m n (sym e) k h q p)
