-- The upper bound of a prefix: what the source ensures of it, and that it is above exactly the keys that begin with the prefix.
use mathlib.Core.Path.{◌≡◌, refl, sym, ◌∙◌}
use mathlib.Core.Bool.{Bool, true, false, cond, false≢true}
use mathlib.Core.List.{[], ◌∷◌, ◌++◌}
use Prim.Native.Nat.{ℕ, zero, suc, ◌+◌, ◌-◌, ◌≤◌, ◌<◌}
use native.Mathlib.Omega.{arith}
use borrow.Author.Tests.{eqb-true, eqb-false, ltb-true, ltb-false, eq-eqb, ne_eqb}
use lib.Dec.{eqb, ltb}
use lib.ListN.{length, take, get_or, length-append}
use lib.Seq.{length-take-le, take_at, get_or_at}
use Rattle.model.specs.keys.Key.{Key, Bytes, IsPrefix}
use Rattle.model.specs.keys.Order.{Element, key, max, lte_key, lte, lt}
use Rattle.model.specs.ranges.RangePrefix.{lcpright, lcp, PivotLcp}
use Rattle.model.specs.ranges.UpperBound.{raised_at, uncommon_from, ShortestUncommonPrefix}
use Rattle.model.proofs.keys.Order.{lte_key-same, lte_key-below, lte_key-above}

-- ---- by the first byte of the prefix

-- the bound of b ∷ p from that of p: b stands before it, or is raised itself
abbrev raise : ℕ → Element → Element
raise b (key k) = key (b ∷ k)
raise b max = cond (eqb b 255) max (key ((b + 1) ∷ []))

from_cons : (b : ℕ) (p : Key) (n : ℕ) → uncommon_from (b ∷ p) (suc n) ≡ raise b (uncommon_from p n)
unfolding uncommon_from raised_at
from_cons b p zero = refl
from_cons b p (suc n) = go (eqb (get_or p n 0) 255) (from_cons b p n)
  where
    go : (t : Bool) → uncommon_from (b ∷ p) (suc n) ≡ raise b (uncommon_from p n)
        → cond t (uncommon_from (b ∷ p) (suc n)) (raised_at (b ∷ p) (suc n)) ≡ raise b (cond t (uncommon_from p n) (raised_at p n))
    go true e = e
    go false e = refl

upper_cons : (b : ℕ) (p : Key) → ShortestUncommonPrefix (b ∷ p) ≡ raise b (ShortestUncommonPrefix p)
unfolding ShortestUncommonPrefix
upper_cons b p = from_cons b p (length p)

-- b before the prefix and before its bound stands before their range's prefix
raise_lcp : (b : ℕ) (p : Key) (u : Element) → PivotLcp (key p) u ≡ p → PivotLcp (key (b ∷ p)) (raise b u) ≡ b ∷ p
unfolding PivotLcp lcp lcpright
raise_lcp b p (key k) e = rw (eq-eqb b b refl, e)
raise_lcp b p max e = go (eqb b 255) refl
  where
    go : (t : Bool) → eqb b 255 ≡ t → PivotLcp (key (b ∷ p)) (cond t max (key ((b + 1) ∷ []))) ≡ b ∷ p
    go true q = rw (q, e)
    go false q = rw (ne_eqb b (b + 1) (λ s. omega arith), eq-eqb (b + 1) (b + 1) refl, e)

-- the prefix of the range from a prefix up to its bound is the prefix itself
pub upper_lcp : (p : Key) → PivotLcp (key p) (ShortestUncommonPrefix p) ≡ p
unfolding ShortestUncommonPrefix uncommon_from PivotLcp lcpright
upper_lcp [] = refl
upper_lcp (b ∷ p) = rw (upper_cons b p) (raise_lcp b p (ShortestUncommonPrefix p) (upper_lcp p))

-- for a key that begins with b as well, b changes nothing
raise_same : (b : ℕ) (k : Key) (u : Element) → lt (key (b ∷ k)) (raise b u) ≡ lt (key k) u
unfolding lte
raise_same b k (key m) = rw (lte_key-same b m k)
raise_same b k max = go (eqb b 255)
  where
    go : (t : Bool) → lt (key (b ∷ k)) (cond t max (key ((b + 1) ∷ []))) ≡ true
    go true = refl
    go false = rw (lte_key-above (b + 1) b [] k (omega arith))

-- a key that begins above b is not below the bound
raise_below : (b x : ℕ) (k : Key) (u : Element) → b < x → x < 256 → lt (key (x ∷ k)) (raise b u) ≡ false
unfolding lte
raise_below b x k (key m) h l = rw (lte_key-below b x m k h)
raise_below b x k max h l = go (eqb b 255) refl (ltb (b + 1) x) refl
  where
    go : (t : Bool) → eqb b 255 ≡ t → (s : Bool) → ltb (b + 1) x ≡ s → lt (key (x ∷ k)) (cond t max (key ((b + 1) ∷ []))) ≡ false
    go true e s q = let z = eqb-true b 255 e in absurd (omega arith)
    go false e true q = rw (lte_key-below (b + 1) x [] k (ltb-true (b + 1) x q))
    go false e false q =
        let z : b + 1 ≡ x = omega (arith, ltb-false (b + 1) x q) in
        rw (← z, lte_key-same (b + 1) [] k) (unfold lte_key in refl)

-- a prefix is below its bound
pub upper_above : (p : Key) → lt (key p) (ShortestUncommonPrefix p) ≡ true
unfolding ShortestUncommonPrefix uncommon_from lte
upper_above [] = refl
upper_above (b ∷ p) = rw (upper_cons b p, raise_same b p (ShortestUncommonPrefix p)) (upper_above p)

-- a key of bytes that is not below a prefix is below the prefix's bound where it begins with the prefix, and only there
pub upper_exact : (p k : Key) → Bytes k → lte (key p) (key k) ≡ true → lt (key k) (ShortestUncommonPrefix p) ≡ IsPrefix p k
unfolding ShortestUncommonPrefix uncommon_from lte IsPrefix
upper_exact [] k w h = refl
upper_exact (b ∷ p) [] w h = absurd (false≢true (unfold lte_key in h))
upper_exact (b ∷ p) (x ∷ k) w h = rw (upper_cons b p) (go (ltb b x) refl (ltb x b) refl (upper_exact p k w.1))
  where
    u : Element
    u = ShortestUncommonPrefix p

    go : (s : Bool) → ltb b x ≡ s → (t : Bool) → ltb x b ≡ t → (lte_key p k ≡ true → lt (key k) u ≡ IsPrefix p k)
        → lt (key (x ∷ k)) (raise b u) ≡ IsPrefix (b ∷ p) (x ∷ k)
    go true e t q f =
        let z = ltb-true b x e in
        rw (raise_below b x k u z w.0, ne_eqb b x (λ s. omega arith))
    go false e true q f = absurd (false≢true (sym (lte_key-above b x p k (ltb-true x b q)) ∙ h))
    go false e false q f =
        let z : b ≡ x = omega (arith, ltb-false b x e, ltb-false x b q) in
        rw (← z, raise_same b k u, eq-eqb b b refl) (f (sym (lte_key-same b p k) ∙ (rw (← z) at h)))

-- ---- where the bound is a key

-- what holds of p up to a place, with the byte there raised by 1
record Raised (p k : Key) : Type 0 where
  nonempty : 0 < length k
  short : length k ≤ length p
  front : take (length k - 1) k ≡ take (length k - 1) p
  last : get_or k (length k - 1) 0 ≡ get_or p (length k - 1) 0 + 1
  bytes : Bytes p → Bytes k

bytes_raised : (p : Key) (i : ℕ) → i < length p → (get_or p i 0 ≡ 255 → ⊥) → Bytes p → Bytes (take i p ++ ((get_or p i 0 + 1) ∷ []))
bytes_raised [] i h o b = absurd (omega arith)
bytes_raised (x ∷ p) zero h o b = (omega arith, tt)
bytes_raised (x ∷ p) (suc i) h o b = (b.0, bytes_raised p i (omega arith) o b.1)

raised_at_lem : (p : Key) (i : ℕ) → i < length p → (get_or p i 0 ≡ 255 → ⊥) → Raised p (take i p ++ ((get_or p i 0 + 1) ∷ []))
raised_at_lem p i h o =
    let m : length (take i p) ≡ i = length-take-le i p (omega arith) in
    let n : length (take i p ++ ((get_or p i 0 + 1) ∷ [])) ≡ i + 1 = rw (length-append, m) in
    let j : length (take i p ++ ((get_or p i 0 + 1) ∷ [])) - 1 ≡ i = omega arith in
    record {
      nonempty = omega arith;
      short = omega arith;
      front = rw j (take_at (take i p) _ i m);
      last = rw j (get_or_at (take i p) _ [] 0 i m);
      bytes = bytes_raised p i h o;
    }

raised_from : (p k : Key) (n : ℕ) → n ≤ length p → uncommon_from p n ≡ key k → Raised p k
unfolding uncommon_from raised_at
raised_from p k zero h e = let z : ◌≡◌ {A = ℕ} 0 1 = cc in absurd (omega arith)
raised_from p k (suc n) h e = go (eqb (get_or p n 0) 255) refl e (raised_from p k n (omega arith))
  where
    go : (t : Bool) → eqb (get_or p n 0) 255 ≡ t → cond t (uncommon_from p n) (raised_at p n) ≡ key k
        → (uncommon_from p n ≡ key k → Raised p k) → Raised p k
    go true q e f = f e
    go false q e f =
        let is : take n p ++ ((get_or p n 0 + 1) ∷ []) ≡ k = cc in
        rw is at (raised_at_lem p n h (eqb-false (get_or p n 0) 255 q))

module _ (p k : Key) where
  raised : ShortestUncommonPrefix p ≡ key k → Raised p k
  unfolding ShortestUncommonPrefix
  raised = raised_from p k (length p) (omega arith)

  -- the bound is not empty
  pub upper_nonempty : ShortestUncommonPrefix p ≡ key k → 0 < length k
  upper_nonempty e = (raised e).nonempty

  -- the bound is no longer than the prefix
  pub upper_short : ShortestUncommonPrefix p ≡ key k → length k ≤ length p
  upper_short e = (raised e).short

  -- all but its last byte are the prefix's
  pub upper_front : ShortestUncommonPrefix p ≡ key k → take (length k - 1) k ≡ take (length k - 1) p
  upper_front e = (raised e).front

  -- its last byte is the prefix's byte there, raised by 1
  pub upper_last : ShortestUncommonPrefix p ≡ key k → get_or k (length k - 1) 0 ≡ get_or p (length k - 1) 0 + 1
  upper_last e = (raised e).last

  -- the bound of bytes is bytes
  pub upper_bytes : Bytes p → ShortestUncommonPrefix p ≡ key k → Bytes k
  upper_bytes b e = (raised e).bytes b
