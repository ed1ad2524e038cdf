-- The range prefix begins every key of its range, is the longest that does, and grows as the range narrows.
use mathlib.Core.Path.{◌≡◌, refl, sym, ap, ◌∙◌}
use mathlib.Core.Logic.{⊎_elim, by_cases}
use mathlib.Core.List.{[], ◌∷◌, ◌++◌, append-nil}
use mathlib.Core.Bool.{Bool, true, false, cond, not, true≢false}
use Prim.Native.Nat.{ℕ, zero, suc, ◌+◌, ◌≤◌, ◌<◌}
use native.Mathlib.Nat.{le_refl, le_trans, eq-or-lt_of_le}
use native.Mathlib.Decide.{dec_le}
use native.Mathlib.Omega.{arith}
use lib.Dec.{eqb}
use lib.ListN.{length, take, drop}
use borrow.Author.Tests.{eqb-true, eqb-false, ne_eqb}
use Rattle.model.specs.keys.Key.{Key, Bytes, IsPrefix, max_len}
use Rattle.model.specs.keys.Order.{Element, key, max, lte_key, lte, lt, BytesE}
use Rattle.model.specs.ranges.RangePrefix.{lcpright, lcp, PivotLcp, InBetween}
use Rattle.model.proofs.keys.Order.{Lte, less, next, Lt, start<, less<, next<, to-Lte, to-Lt, from-Lte, from-Lt}
use Rattle.model.proofs.keys.Order.{lte_refl, lte_trans, lte_max, lt_lte, lt_false, lt_trans_lte, prefix_first}
use Rattle.model.proofs.keys.Key.{both, prefix_next, prefix_split, prefix_is_take, prefix_length, prefix_nested}

-- the key is below the element, by where they part
abbrev Below : Key → Element → Type 0
Below k (key r) = Lt k r
Below k max = Unit {0}

-- how far the prefix p of the range from l to r goes; where it stops, the next byte plus 1 is in the range
data Reach : Key → Element → Key → Type 0 where
  ends : {r : Element} → Reach [] r []
  equal : {a d : ℕ} {l r p : Key} → a ≡ d → Reach l (key r) p → Reach (a ∷ l) (key (d ∷ r)) (a ∷ p)
  raised : {a d : ℕ} {l p : Key} → a + 1 ≡ d → Reach l max p → Reach (a ∷ l) (key (d ∷ [])) (a ∷ p)
  ff : {a : ℕ} {l p : Key} → a ≡ 255 → Reach l max p → Reach (a ∷ l) max (a ∷ p)
  stops : (a : ℕ) (l : Key) (r : Element)
      → (a < 256 → BytesE r → Below (a ∷ l) r → (a + 1 < 256) × Below ((a + 1) ∷ []) r) → Reach (a ∷ l) r []

-- a key that is below does not begin higher
first_le : {x y : ℕ} {a b : Key} → Lt (x ∷ a) (y ∷ b) → x ≤ y
first_le (less< h) = omega arith
first_le (next< h) = omega arith

-- two keys that part, and not by a last byte plus 1, have no more of a prefix
stops_at : (a d : ℕ) (l r : Key) → (a ≡ d → ⊥) → (a + 1 ≡ d → Lt [] r) → Reach (a ∷ l) (key (d ∷ r)) []
stops_at a d l r f g = stops a l (key (d ∷ r)) go
  where
    go : a < 256 → Bytes (d ∷ r) → Lt (a ∷ l) (d ∷ r) → (a + 1 < 256) × Lt ((a + 1) ∷ []) (d ∷ r)
    go w b h =
        let i : a + 1 ≤ d = omega (arith, first_le h, f) in
        (omega (arith, b.0), ⊎_elim (λ e. rw e (next< (g e))) (λ q. less< q) (eq-or-lt_of_le i))

-- the range prefix goes so far
reach : (l : Key) (r : Element) → Reach l r (PivotLcp (key l) r)
unfolding PivotLcp lcpright lcp
reach [] (key r) = ends
reach [] max = ends
reach (a ∷ l) max = go (eqb a 255) refl (reach l max)
  where
    go : (t : Bool) → eqb a 255 ≡ t → Reach l max (lcpright l) → Reach (a ∷ l) max (cond t (a ∷ lcpright l) [])
    go true e s = ff (eqb-true a 255 e) s
    go false e s = stops a l max (λ w b h. (omega (arith, eqb-false a 255 e), tt))
reach (a ∷ l) (key []) = stops a l (key []) (λ w b h. elim h [ ])
reach (a ∷ l) (key (d ∷ [])) = go (eqb a d) (eqb (a + 1) d) refl refl (reach l (key [])) (reach l max)
  where
    go : (t u : Bool) → eqb a d ≡ t → eqb (a + 1) d ≡ u → Reach l (key []) (lcp l []) → Reach l max (lcpright l)
        → Reach (a ∷ l) (key (d ∷ [])) (cond t (a ∷ lcp l []) (cond u (a ∷ lcpright l) []))
    go true u e f s q = equal (eqb-true a d e) s
    go false true e f s q = raised (eqb-true (a + 1) d f) q
    go false false e f s q = stops_at a d l [] (eqb-false a d e) (λ w. absurd (eqb-false (a + 1) d f w))
reach (a ∷ l) (key (d ∷ c ∷ r)) = go (eqb a d) refl (reach l (key (c ∷ r)))
  where
    go : (t : Bool) → eqb a d ≡ t → Reach l (key (c ∷ r)) (lcp l (c ∷ r))
        → Reach (a ∷ l) (key (d ∷ c ∷ r)) (cond t (a ∷ lcp l (c ∷ r)) [])
    go true e s = equal (eqb-true a d e) s
    go false e s = stops_at a d l (c ∷ r) (eqb-false a d e) (λ w. start<)

-- that far the left key goes along
left : {l : Key} {r : Element} {p : Key} → Reach l r p → IsPrefix p l ≡ true
unfolding IsPrefix
left ends = refl
left (equal {a = a} {l = l} {p = p} e s) = prefix_next a p l ∙ left s
left (raised {a = a} {l = l} {p = p} e s) = prefix_next a p l ∙ left s
left (ff {a = a} {l = l} {p = p} e s) = prefix_next a p l ∙ left s
left (stops a l r f) = refl

-- that far every key of the range goes along
all : {l : Key} {r : Element} {p k : Key} → Reach l r p → Bytes k → Lte l k → Below k r → IsPrefix p k ≡ true
unfolding IsPrefix
all ends w h j = refl
all (stops a l r f) w h j = refl
all (equal {a = a} {p = p} e s) w (next {b = k} h) (next< j) = prefix_next a p k ∙ all s w.1 h j
all (equal e s) w (next h) (less< j) = absurd (omega arith)
all (equal e s) w (less h) j = absurd (omega (arith, first_le j))
all (raised {a = a} {p = p} e s) w (next {b = k} h) j = prefix_next a p k ∙ all s w.1 h tt
all (raised e s) w (less h) (less< j) = absurd (omega arith)
all (raised e s) w (less h) (next< j) = elim j [ ]
all (ff {a = a} {p = p} e s) w (next {b = k} h) j = prefix_next a p k ∙ all s w.1 h tt
all (ff e s) w (less h) j = absurd (omega arith)

-- the order's test says how a key is below
to-Below : (k : Key) (r : Element) → lt (key k) r ≡ true → Below k r
unfolding lte
to-Below k (key r) h = to-Lt k r (lt_false (key k) (key r) h)
to-Below k max h = tt

-- the order's test is passed by a key that is below
from-Below : (k : Key) (r : Element) → Below k r → lt (key k) r ≡ true
unfolding lte
from-Below k (key r) h = ap not (from-Lt h)
from-Below k max h = refl

-- a prefix of a key is not above it
pub prefix_lte : (p k : Key) → IsPrefix p k ≡ true → lte (key p) (key k) ≡ true
prefix_lte p k h = go (drop (length p) k) (prefix_split p k h)
  where
    go : (m : Key) → p ++ m ≡ k → lte (key p) (key k) ≡ true
    go [] e = rw (← e, append-nil) (lte_refl (key p))
    go (b ∷ m) e = rw (← e) (lt_lte (key p) (key (p ++ b ∷ m)) (prefix_first p b m))

-- the range prefix begins the left key
pub prefix_of_left : (l : Key) (r : Element) → IsPrefix (PivotLcp (key l) r) l ≡ true
prefix_of_left l r = left (reach l r)

-- the range prefix is not above the left key
pub prefix_not_above : (l : Key) (r : Element) → lte (key (PivotLcp (key l) r)) (key l) ≡ true
prefix_not_above l r = prefix_lte (PivotLcp (key l) r) l (prefix_of_left l r)

-- the range prefix begins every key of its range
pub shared : (l : Key) (r : Element) (k : Key) → Bytes k → InBetween (key l) r k ≡ true → IsPrefix (PivotLcp (key l) r) k ≡ true
unfolding lte
shared l r k w h =
    let i = both (lte_key l k) (lt (key k) r) h in
    all (reach l r) w (to-Lte l k i.0) (to-Below k r i.1)

-- a key of the range from l to r, no longer than l, that p does not begin
pub record Missed (l : Key) (r : Element) (p k : Key) : Type 0 where
  pub bytes : Bytes k
  pub short : length k ≤ length l
  pub inside : InBetween (key l) r k ≡ true
  pub misses : IsPrefix p k ≡ false

-- a key of the range from l to r that no more of l than p begins
record Parts (l : Key) (r : Element) (p k : Key) : Type 0 where
  bytes : Bytes k
  short : length k ≤ length l
  above : Lte l k
  under : Below k r
  misses : (n : ℕ) → length p < n → IsPrefix (take n l) k ≡ false

-- a byte in front of each
parts_next : {l p k : Key} {r r' : Element} (a : ℕ) → a < 256 → Below (a ∷ k) r' → Parts l r p k → Parts (a ∷ l) r' (a ∷ p) (a ∷ k)
parts_next {l} {p} {k} a w u o = record { bytes = (w, o.bytes); short = omega arith; above = next o.above; under = u; misses = go }
  where
    go : (n : ℕ) → length (a ∷ p) < n → IsPrefix (take n (a ∷ l)) (a ∷ k) ≡ false
    go zero h = absurd (omega arith)
    go (suc n) h = prefix_next a (take n l) k ∙ o.misses n (omega arith)

-- the first byte plus 1
parts_at : {l : Key} {r : Element} (a : ℕ) → a + 1 < 256 → Below ((a + 1) ∷ []) r → Parts (a ∷ l) r [] ((a + 1) ∷ [])
unfolding IsPrefix
parts_at {l} a w u = record { bytes = (w, tt); short = omega arith; above = less {x = a} {y = a + 1} (omega arith); under = u; misses = go }
  where
    go : (n : ℕ) → 0 < n → IsPrefix (take n (a ∷ l)) ((a + 1) ∷ []) ≡ false
    go zero h = absurd (omega arith)
    go (suc n) h = rw (ne_eqb a (a + 1) (omega arith))

-- where the range prefix is not all of the left key, there is such a key
other : {l p : Key} {r : Element} → Reach l r p → Bytes l → BytesE r → Below l r → length p < length l → (k : Key) × Parts l r p k
other ends b c h i = absurd (omega arith)
other (equal {a = a} e s) b c (next< h) i =
    let w = other s b.1 c.1 h (omega arith) in (a ∷ w.0, parts_next a b.0 (next< w.1.under) w.1)
other (equal e s) b c (less< h) i = absurd (omega arith)
other (raised {a = a} e s) b c h i =
    let w = other s b.1 tt tt (omega arith) in (a ∷ w.0, parts_next a b.0 (less< (omega arith)) w.1)
other (ff {a = a} e s) b c h i = let w = other s b.1 tt tt (omega arith) in (a ∷ w.0, parts_next a b.0 tt w.1)
other (stops a l r f) b c h i = let w = f b.0 c h in ((a + 1) ∷ [], parts_at a w.0 w.1)

-- more of the left key than the range prefix misses a key of the range
pub longer_misses : (l : Key) (r : Element) (n : ℕ) → Bytes l → BytesE r → lt (key l) r ≡ true
    → length (PivotLcp (key l) r) < n → n ≤ length l → (k : Key) × Missed l r (take n l) k
unfolding lte
longer_misses l r n b c h i j =
    let (k, o) = other (reach l r) b c (to-Below l r h) (omega arith) in
    (k, record { bytes = o.bytes; short = o.short; inside = rw (from-Lte o.above) (from-Below k r o.under); misses = o.misses n i })

-- what begins every key of the range that is no longer than the left key begins the range prefix
longest_short : (l : Key) (r : Element) (p : Key) → Bytes l → BytesE r → lt (key l) r ≡ true
    → ((k : Key) → Bytes k → length k ≤ length l → InBetween (key l) r k ≡ true → IsPrefix p k ≡ true)
    → IsPrefix p (PivotLcp (key l) r) ≡ true
longest_short l r p b c h f = by_cases (dec_le (length p) (length q)) inner outer
  where
    q : Key
    q = PivotLcp (key l) r

    begins : IsPrefix p l ≡ true
    begins = f l b (le_refl (length l)) (rw (lte_refl (key l)) h)

    inner : length p ≤ length q → IsPrefix p q ≡ true
    inner i = prefix_nested p q l begins (prefix_of_left l r) i

    outer : (length p ≤ length q → ⊥) → IsPrefix p q ≡ true
    outer i =
        let (k, o) = longer_misses l r (length p) b c h (omega arith) (prefix_length p l begins) in
        absurd (true≢false (sym (f k o.bytes o.short o.inside) ∙ rw (prefix_is_take p l begins) at o.misses))

-- every prefix that all keys of at most 64 bytes in the range share begins the range prefix
pub longest : (l : Key) (r : Element) (p : Key) → Bytes l → BytesE r → length l ≤ max_len → lt (key l) r ≡ true
    → ((k : Key) → Bytes k → length k ≤ max_len → InBetween (key l) r k ≡ true → IsPrefix p k ≡ true)
    → IsPrefix p (PivotLcp (key l) r) ≡ true
longest l r p b c s h f = longest_short l r p b c h (λ k w i j. f k w (le_trans i s) j)

-- narrowing a range only lengthens its prefix
pub narrows : (a b a' b' : Element) → lte a a' ≡ true → lt a' b' ≡ true → lte b' b ≡ true → BytesE a' → BytesE b'
    → IsPrefix (PivotLcp a b) (PivotLcp a' b') ≡ true
unfolding lte PivotLcp IsPrefix
narrows max b a' b' h j k v w = refl
narrows (key l) b max b' h j k v w = absurd (true≢false (sym (lte_max b') ∙ lt_false max b' j))
narrows (key l) b (key l') b' h j k v w = longest_short l' b' (PivotLcp (key l) b) v w j inner
  where
    inner : (m : Key) → Bytes m → length m ≤ length l' → InBetween (key l') b' m ≡ true → IsPrefix (PivotLcp (key l) b) m ≡ true
    inner m x y z =
        let i = both (lte (key l') (key m)) (lt (key m) b') z in
        shared l b m x (rw (lte_trans (key l) (key l') (key m) h i.0) (lt_trans_lte (key m) b' b i.1 k))
