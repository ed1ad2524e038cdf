-- The order is total, with max above every key; a proper prefix comes first.
use mathlib.Core.Path.{◌≡◌, refl, sym, ap, ◌∙◌}
use mathlib.Core.Logic.{◌⊎◌, inl, inr, ⊎_elim}
use mathlib.Core.List.{[], ◌∷◌, ◌++◌}
use mathlib.Core.Bool.{Bool, true, false, not, true≢false}
use Prim.Native.Nat.{ℕ, ◌<◌, ◌≤◌}
use native.Mathlib.Nat.{lt_trans}
use native.Mathlib.Omega.{arith}
use lib.Dec.{ltb}
use lib.IntN.{pos, negsuc}
use borrow.Author.Tests.{ltb-true, ltb-false, lt-ltb, le-ltb, not-true}
use Rattle.model.specs.keys.Key.{Key}
use Rattle.model.specs.keys.Order.{Element, key, max, is_key, lte_key, lte, lt, cmp}

-- the left key is not above the right one, by where they part
pub data Lte : Key → Key → Type 0 where
  start : {b : Key} → Lte [] b
  less : {x y : ℕ} {a b : Key} → x < y → Lte (x ∷ a) (y ∷ b)
  next : {x : ℕ} {a b : Key} → Lte a b → Lte (x ∷ a) (x ∷ b)

-- the left key is below the right one, by where they part
pub data Lt : Key → Key → Type 0 where
  start< : {y : ℕ} {b : Key} → Lt [] (y ∷ b)
  less< : {x y : ℕ} {a b : Key} → x < y → Lt (x ∷ a) (y ∷ b)
  next< : {x : ℕ} {a b : Key} → Lt a b → Lt (x ∷ a) (x ∷ b)

-- after equal first bytes the rest decides
pub lte_key-same : (x : ℕ) (a b : Key) → lte_key (x ∷ a) (x ∷ b) ≡ lte_key a b
unfolding lte_key
lte_key-same x a b = simp (le-ltb x x (omega arith))

-- a lower first byte is below
pub lte_key-below : (x y : ℕ) (a b : Key) → x < y → lte_key (x ∷ a) (y ∷ b) ≡ true
unfolding lte_key
lte_key-below x y a b h = simp (lt-ltb x y h)

-- a higher first byte is above
pub lte_key-above : (x y : ℕ) (a b : Key) → y < x → lte_key (x ∷ a) (y ∷ b) ≡ false
unfolding lte_key
lte_key-above x y a b h = simp (le-ltb x y (omega arith), lt-ltb y x h)

-- what is not above passes the test
pub from-Lte : {a b : Key} → Lte a b → lte_key a b ≡ true
unfolding lte_key
from-Lte start = refl
from-Lte (less {x = x} {y = y} {a = a} {b = b} h) = lte_key-below x y a b h
from-Lte (next {x = x} {a = a} {b = b} h) = lte_key-same x a b ∙ from-Lte h

-- what is above fails it
pub from-Lt : {a b : Key} → Lt a b → lte_key b a ≡ false
unfolding lte_key
from-Lt start< = refl
from-Lt (less< {x = x} {y = y} {a = a} {b = b} h) = lte_key-above y x b a h
from-Lt (next< {x = x} {a = a} {b = b} h) = lte_key-same x b a ∙ from-Lt h

-- of two keys the first is not above, or the second is below
parts : (a b : Key) → Lte a b ⊎ Lt b a
parts [] b = inl start
parts (x ∷ a) [] = inr start<
parts (x ∷ a) (y ∷ b) = go (ltb x y) (ltb y x) refl refl (parts a b)
  where
    go : (p q : Bool) → ltb x y ≡ p → ltb y x ≡ q → Lte a b ⊎ Lt b a → Lte (x ∷ a) (y ∷ b) ⊎ Lt (y ∷ b) (x ∷ a)
    go true q e f r = inl (less (ltb-true x y e))
    go false true e f r = inr (less< (ltb-true y x f))
    go false false e f r =
        let w : x ≡ y = omega (arith, ltb-false x y e, ltb-false y x f) in
        rw w (⊎_elim (λ (h : Lte a b). inl (next h)) (λ (h : Lt b a). inr (next< h)) r)

-- a test that is passed says how
pub to-Lte : (a b : Key) → lte_key a b ≡ true → Lte a b
to-Lte a b h = ⊎_elim (λ p. p) (λ q. absurd (true≢false (sym h ∙ from-Lt q))) (parts a b)

-- a test that is failed says how
pub to-Lt : (a b : Key) → lte_key b a ≡ false → Lt a b
to-Lt a b h = ⊎_elim (λ p. absurd (true≢false (sym (from-Lte p) ∙ h))) (λ q. q) (parts b a)

-- a key below is not above
Lt-Lte : {a b : Key} → Lt a b → Lte a b
Lt-Lte start< = start
Lt-Lte (less< h) = less h
Lt-Lte (next< h) = next (Lt-Lte h)

-- no key is above itself
refl-Key : (a : Key) → Lte a a
refl-Key [] = start
refl-Key (x ∷ a) = next (refl-Key a)

-- the order goes on from key to key
trans-Key : {a b c : Key} → Lte a b → Lte b c → Lte a c
trans-Key start k = start
trans-Key (less h) (less k) = less (lt_trans h k)
trans-Key (less h) (next k) = less h
trans-Key (next h) (less k) = less k
trans-Key (next h) (next k) = next (trans-Key h k)

-- the first bytes of keys stand as the keys do, and where they are equal the rests do
pub first-Lte : {x y : ℕ} {a b : Key} → Lte (x ∷ a) (y ∷ b) → x ≤ y
first-Lte (less h) = omega arith
first-Lte (next h) = omega arith

pub first-Lt : {x y : ℕ} {a b : Key} → Lt (x ∷ a) (y ∷ b) → x ≤ y
first-Lt (less< h) = omega arith
first-Lt (next< h) = omega arith

pub rest-Lte : {x y : ℕ} {a b : Key} → Lte (x ∷ a) (y ∷ b) → x ≡ y → Lte a b
rest-Lte (less h) e = absurd (omega arith)
rest-Lte (next h) e = h

pub rest-Lt : {x y : ℕ} {a b : Key} → Lt (x ∷ a) (y ∷ b) → x ≡ y → Lt a b
rest-Lt (less< h) e = absurd (omega arith)
rest-Lt (next< h) e = h

-- keys that are not above each other are one
antisym-Key : (a b : Key) → Lte a b → Lte b a → a ≡ b
antisym-Key [] [] h k = refl
antisym-Key [] (y ∷ b) h k = elim k [ ]
antisym-Key (x ∷ a) [] h k = elim h [ ]
antisym-Key (x ∷ a) (y ∷ b) h k =
    let e : x ≡ y = omega (arith, first-Lte h, first-Lte k) in
    let t = antisym-Key a b (rest-Lte h e) (rest-Lte k (sym e)) in
    cc

-- no element is above itself
pub lte_refl : (a : Element) → lte a a ≡ true
unfolding lte
lte_refl (key a) = from-Lte (refl-Key a)
lte_refl max = refl

-- of two elements one is not above the other
pub lte_total : (a b : Element) → lte a b ≡ false → lte b a ≡ true
unfolding lte
lte_total (key a) (key b) h = from-Lte (Lt-Lte (to-Lt b a h))
lte_total (key a) max h = absurd (true≢false h)
lte_total max (key b) h = refl
lte_total max max h = refl

-- the order goes on from element to element
pub lte_trans : (a b c : Element) → lte a b ≡ true → lte b c ≡ true → lte a c ≡ true
unfolding lte
lte_trans (key a) (key b) (key c) h k = from-Lte (trans-Key (to-Lte a b h) (to-Lte b c k))
lte_trans (key a) (key b) max h k = refl
lte_trans (key a) max (key c) h k = absurd (true≢false (sym k))
lte_trans (key a) max max h k = refl
lte_trans max (key b) c h k = absurd (true≢false (sym h))
lte_trans max max c h k = k

-- elements that are not above each other are one
pub lte_antisym : (a b : Element) → lte a b ≡ true → lte b a ≡ true → a ≡ b
unfolding lte
lte_antisym (key a) (key b) h k = ap key (antisym-Key a b (to-Lte a b h) (to-Lte b a k))
lte_antisym (key a) max h k = absurd (true≢false (sym k))
lte_antisym max (key b) h k = absurd (true≢false (sym h))
lte_antisym max max h k = refl

-- nothing is above max
pub lte_max : (a : Element) → lte a max ≡ true
unfolding lte
lte_max (key k) = refl
lte_max max = refl

-- every key is below max
pub max_above : (k : Key) → lt (key k) max ≡ true
unfolding lte
max_above k = refl

-- a key is below each that it properly begins
pub prefix_first : (k : Key) (b : ℕ) (m : Key) → lt (key k) (key (k ++ b ∷ m)) ≡ true
unfolding lte
prefix_first k b m = ap not (from-Lt (go k))
  where
    go : (k : Key) → Lt k (k ++ b ∷ m)
    go [] = start<
    go (x ∷ k) = next< (go k)

-- what is below is so after the same bytes
pub Lt-after : (p : Key) {a b : Key} → Lt a b → Lt (p ++ a) (p ++ b)
Lt-after [] h = h
Lt-after (x ∷ p) h = next< (Lt-after p h)

-- the first differing byte decides
pub first_difference : (p a b : Key) (x y : ℕ) → x < y → lt (key (p ++ x ∷ a)) (key (p ++ y ∷ b)) ≡ true
unfolding lte
first_difference p a b x y h = ap not (from-Lt (Lt-after p (less< h)))

-- below says that the other way round is false
pub lt_false : (a b : Element) → lt a b ≡ true → lte b a ≡ false
lt_false a b h = not-true (lte b a) h

-- where one order is false, the other way round is below
pub false_lt : (a b : Element) → lte b a ≡ false → lt a b ≡ true
false_lt a b h = ap not h

-- what is below another element is a key
pub below_key : (a b : Element) → lt a b ≡ true → is_key a ≡ true
below_key (key k) b h = refl
below_key max b h = absurd (true≢false (sym (lte_max b) ∙ lt_false max b h))

-- below is not above
pub lt_lte : (a b : Element) → lt a b ≡ true → lte a b ≡ true
lt_lte a b h = lte_total b a (lt_false a b h)

-- a test that cannot be passed is failed
pub refuted : (t : Bool) → (t ≡ true → ⊥) → t ≡ false
refuted true h = absurd (h refl)
refuted false h = refl

-- below, and then not above, is below
pub lt_trans_lte : (a b c : Element) → lt a b ≡ true → lte b c ≡ true → lt a c ≡ true
lt_trans_lte a b c h k = ap not (refuted (lte c a) (λ e. true≢false (sym (lte_trans b c a k e) ∙ lt_false a b h)))

-- not above, and then below, is below
pub lte_trans_lt : (a b c : Element) → lte a b ≡ true → lt b c ≡ true → lt a c ≡ true
lte_trans_lt a b c h k = ap not (refuted (lte c a) (λ e. true≢false (sym (lte_trans c a b e h) ∙ lt_false b c k)))

-- compare answers -1 below
pub cmp_less : (a b : Element) → lt a b ≡ true → cmp a b ≡ negsuc 0
unfolding cmp
cmp_less a b h = rw h

-- compare answers 1 above
pub cmp_more : (a b : Element) → lt b a ≡ true → cmp a b ≡ pos 1
unfolding cmp
cmp_more a b h = rw (lt_lte b a h, lt_false b a h)

-- compare answers 0 at an element and itself
pub cmp_same : (a : Element) → cmp a a ≡ pos 0
unfolding cmp
cmp_same a = rw (lte_refl a)

-- compare answers 0 only where both elements are one
pub cmp_zero : (a b : Element) → cmp a b ≡ pos 0 → a ≡ b
unfolding cmp
cmp_zero a b h = go (lte b a) (lte a b) refl refl
  where
    go : (p q : Bool) → lte b a ≡ p → lte a b ≡ q → a ≡ b
    go true true e f = lte_antisym a b f e
    go true false e f = cc (cmp_more a b (false_lt b a f))
    go false q e f = cc (cmp_less a b (false_lt a b e))

-- compare of keys, by where they part
pub below : {a b : Key} → Lt a b → cmp (key a) (key b) ≡ negsuc 0
unfolding lte
below {a = a} {b = b} h = cmp_less (key a) (key b) (ap not (from-Lt h))

pub above : {a b : Key} → Lt b a → cmp (key a) (key b) ≡ pos 1
unfolding lte
above {a = a} {b = b} h = cmp_more (key a) (key b) (ap not (from-Lt h))
