-- Words whose first byte is the highest are in the order of their bytes.
use mathlib.Core.Path.{◌≡◌, refl, sym, ap, ◌∙◌}
use mathlib.Core.Bool.{Bool, true, false, true≢false}
use mathlib.Core.List.{List, [], ◌∷◌}
use Prim.Native.Nat.{ℕ, zero, suc, ◌+◌, ◌*◌, ◌-◌, ◌/◌, ◌≤◌, ◌<◌, min}
use native.Mathlib.Omega.{arith}
use mir.Syntax.{w8, w64}
use mir.Val.{Fits}
use borrow.Author.Tests.{ltb-true, ltb-false}
use lib.Dec.{ltb}
use lib.IntN.{pos}
use lib.ListN.{length, take, drop, get_or, length-take, length-drop}
use lib.Seq.{take-take, take-add}
use Rattle.std.specs.Int.{from_be_bytes}
use Rattle.std.specs.Cmp.{ranked}
use Rattle.std.specs.Ordering.{MatchOrdering, nat_cmp}
use Rattle.std.specs.declared.cmp.Ordering.{Ordering}
use Rattle.std.specs.declared.cmp.Ordering.TheVariants.{Less, Equal, Greater}
use Rattle.model.specs.keys.Key.{Key, Bytes}
use Rattle.model.specs.keys.Order.{key, cmp, sign}
use Rattle.model.proofs.keys.Key.{bytes_of, bytes_drop}
use Rattle.model.proofs.keys.Order.{Lt, less<, next<, Lt-after, below, above, cmp_same}
use Rattle.model.proofs.keys.Parts.{first_decides}
use Rattle.scan.specs.Word.{big_of, whole}
use Rattle.scan.proofs.ByWords.{head_byte}

-- what is higher so far stays higher
higher : (n v w : ℕ) (a b : List ℕ) → Bytes a → Bytes b → v < w → big_of n v a < big_of n w b
unfolding big_of
higher zero v w a b p q h = h
higher (suc n) v w a b p q h =
    higher n (v * 256 + get_or a 0 0) (w * 256 + get_or b 0 0) (drop 1 a) (drop 1 b) (bytes_drop 1 a p) (bytes_drop 1 b q)
    (omega (arith, head_byte a p, head_byte b q))

-- the lower number has the lower bytes
big_below : (n v : ℕ) (a b : Key) → n ≤ length a → n ≤ length b → Bytes a → Bytes b → big_of n v a < big_of n v b → Lt (take n a) (take n b)
unfolding big_of
big_below zero v a b h k p q l = absurd (omega arith)
big_below (suc n) v [] b h k p q l = absurd (omega arith)
big_below (suc n) v (x ∷ a) [] h k p q l = absurd (omega arith)
big_below (suc n) v (x ∷ a) (y ∷ b) h k p q l =
    go (ltb x y) (ltb y x) refl refl (big_below n (v * 256 + x) a b (omega arith) (omega arith) p.1 q.1)
  where
    go : (s t : Bool) → ltb x y ≡ s → ltb y x ≡ t → (big_of n (v * 256 + x) a < big_of n (v * 256 + x) b → Lt (take n a) (take n b))
        → Lt (x ∷ take n a) (y ∷ take n b)
    go true t e f r = less< (ltb-true x y e)
    go false true e f r =
        let m = ltb-true y x f in
        let w = higher n (v * 256 + y) (v * 256 + x) b a q.1 p.1 (omega arith) in
        absurd (omega arith)
    go false false e f r =
        let w : y ≡ x = omega (arith, ltb-false x y e, ltb-false y x f) in
        rw w (next< (r (rw w at l)))

-- words that are equal numbers have equal bytes
big_same : (n v : ℕ) (a b : Key) → n ≤ length a → n ≤ length b → Bytes a → Bytes b → big_of n v a ≡ big_of n v b → take n a ≡ take n b
unfolding big_of
big_same zero v a b h k p q e = refl
big_same (suc n) v [] b h k p q e = absurd (omega arith)
big_same (suc n) v (x ∷ a) [] h k p q e = absurd (omega arith)
big_same (suc n) v (x ∷ a) (y ∷ b) h k p q e =
    go (ltb x y) (ltb y x) refl refl (big_same n (v * 256 + x) a b (omega arith) (omega arith) p.1 q.1)
  where
    go : (s t : Bool) → ltb x y ≡ s → ltb y x ≡ t → (big_of n (v * 256 + x) a ≡ big_of n (v * 256 + x) b → take n a ≡ take n b)
        → x ∷ take n a ≡ y ∷ take n b
    go true t f g r =
        let m = ltb-true x y f in
        let w = higher n (v * 256 + x) (v * 256 + y) a b p.1 q.1 (omega arith) in
        absurd (omega arith)
    go false true f g r =
        let m = ltb-true y x g in
        let w = higher n (v * 256 + y) (v * 256 + x) b a q.1 p.1 (omega arith) in
        absurd (omega arith)
    go false false f g r =
        let w : y ≡ x = omega (arith, ltb-false x y f, ltb-false y x g) in
        rw w (ap (◌∷◌ x) (r (rw w at e)))

-- ---- in the course of a comparison

-- the bytes before the place i agree, and are whole words
pub record Agreed (a b : List ℕ) (i : ℕ) : Type 0 where
  pub inside : i ≤ min (length a) (length b)
  pub words : i ≡ i / 8 * 8
  pub same : take i a ≡ take i b

-- at the start there are none
pub agreed_start : (a b : List ℕ) → Agreed a b 0
agreed_start a b = record { inside = omega arith; words = omega arith; same = refl }

-- what is below after bytes that agree is so whatever follows
lower_word : (a b : Key) (i : ℕ) → take i a ≡ take i b → i + 8 ≤ length a → i + 8 ≤ length b → Bytes a → Bytes b
    → big_of 8 0 (drop i a) < big_of 8 0 (drop i b) → Lt (take (i + 8) a) (take (i + 8) b)
lower_word a b i e h k p q d =
    let first = big_below 8 0 (drop i a) (drop i b) (omega (arith, length-drop i a)) (omega (arith, length-drop i b))
    (bytes_drop i a p) (bytes_drop i b q) d in
    rw (take-add i 8 a, take-add i 8 b, e) (Lt-after (take i b) first)

-- the first m bytes decide over more of them
over_more : (a b : Key) (m w : ℕ) → m ≤ w → w ≤ length a → w ≤ length b → (cmp (key (take m a)) (key (take m b)) ≡ pos 0 → ⊥)
    → cmp (key (take w a)) (key (take w b)) ≡ cmp (key (take m a)) (key (take m b))
over_more a b m w h k l d =
    rw (take-take m w a h, take-take m w b h) at
    (first_decides m (take w a) (take w b) (omega (arith, length-take w a)) (omega (arith, length-take w b))
    (rw (take-take m w a h, take-take m w b h) d))

module _ (a b : List ℕ) (i n : ℕ) (c : Agreed a b i) (e : n ≡ min (length a) (length b)) where
  module _ (h : i < n / 8 * 8) (x y : ℕ) (u : x ≡ big_of 8 0 (drop i a)) (v : y ≡ big_of 8 0 (drop i b))
      (p : (j : ℕ) → Fits w8 (get_or a j 0)) (q : (j : ℕ) → Fits w8 (get_or b j 0)) where
    -- a word that agrees is passed
    pub word_passed : x ≡ y → Agreed a b (i + 8)
    word_passed g =
        let w = big_same 8 0 (drop i a) (drop i b) (omega (arith, length-drop i a)) (omega (arith, length-drop i b))
        (bytes_drop i a (bytes_of a p)) (bytes_drop i b (bytes_of b q)) (sym u ∙ g ∙ v) in
        record { inside = omega (arith, c.words); words = omega (arith, c.words); same = rw (take-add i 8 a, take-add i 8 b, c.same, w) }

    -- a lower one is below
    pub word_below : x < y → sign Less ≡ cmp (key (take (whole a b) a)) (key (take (whole a b) b))
    unfolding whole
    word_below g =
        let w = below (lower_word a b i c.same (omega arith) (omega arith) (bytes_of a p) (bytes_of b q) (rw (← u, ← v) g)) in
        sym (over_more a b (i + 8) (min (length a) (length b) / 8 * 8) (omega (arith, c.words)) (omega arith) (omega arith)
        (λ z. true≢false (cc (sym w ∙ z))) ∙ w)

    -- and a higher one above
    pub word_above : y < x → sign Greater ≡ cmp (key (take (whole a b) a)) (key (take (whole a b) b))
    unfolding whole
    word_above d =
        let w = above (lower_word b a i (sym c.same) (omega arith) (omega arith) (bytes_of b q) (bytes_of a p) (rw (← u, ← v) d)) in
        sym (over_more a b (i + 8) (min (length a) (length b) / 8 * 8) (omega (arith, c.words)) (omega arith) (omega arith)
        (λ z. true≢false (cc (sym w ∙ z))) ∙ w)

    -- so two that differ decide
    pub words_differ : (o : Ordering) → (x ≡ y → ⊥) → o ≡ nat_cmp x y → sign o ≡ cmp (key (take (whole a b) a)) (key (take (whole a b) b))
    words_differ o d r = go o (ranked x y o r)
      where
        go : (o : Ordering) → MatchOrdering o (x < y) (x ≡ y) (y < x) → sign o ≡ cmp (key (take (whole a b) a)) (key (take (whole a b) b))
        go Less l = word_below l
        go Equal e = absurd (d e)
        go Greater l = word_above l

  -- after the last word none differs
  pub words_agree : n / 8 * 8 ≤ i → sign Equal ≡ cmp (key (take (whole a b) a)) (key (take (whole a b) b))
  unfolding whole
  words_agree h =
      let w : min (length a) (length b) / 8 * 8 ≡ i = omega (arith, c.inside, c.words) in
      rw (w, c.same) (sym (cmp_same (key (take i b))))

-- the word of that number is passed
pub number_passed : (a b : List ℕ) (i n : ℕ) → Agreed a b (8 * i) → n ≡ min (length a) (length b) → i < n / 8 → (x y : ℕ) → x ≡ big_of 8 0 (drop (8 * i) a)
    → y ≡ big_of 8 0 (drop (8 * i) b) → ((j : ℕ) → Fits w8 (get_or a j 0)) → ((j : ℕ) → Fits w8 (get_or b j 0)) → x ≡ y → Agreed a b (8 * (i + 1))
number_passed a b i n c e h x y u v p q g =
    let f : 8 * (i + 1) ≡ 8 * i + 8 = omega arith in
    rw f (word_passed a b (8 * i) n c e (omega arith) x y u v p q g)

-- ---- the word, as the library reads it

big_first : (l : List ℕ) → 8 ≤ length l → from_be_bytes w64 (take 8 l) ≡ big_of 8 0 l
unfolding big_of
big_first [] p = absurd (omega arith)
big_first (a ∷ []) p = absurd (omega arith)
big_first (a ∷ b ∷ []) p = absurd (omega arith)
big_first (a ∷ b ∷ c ∷ []) p = absurd (omega arith)
big_first (a ∷ b ∷ c ∷ d ∷ []) p = absurd (omega arith)
big_first (a ∷ b ∷ c ∷ d ∷ e ∷ []) p = absurd (omega arith)
big_first (a ∷ b ∷ c ∷ d ∷ e ∷ f ∷ []) p = absurd (omega arith)
big_first (a ∷ b ∷ c ∷ d ∷ e ∷ f ∷ g ∷ []) p = absurd (omega arith)
big_first (a ∷ b ∷ c ∷ d ∷ e ∷ f ∷ g ∷ h ∷ l) p = omega arith

pub big_is : (s : List ℕ) (i : ℕ) (y : List ℕ) → i + 8 ≤ length s → y ≡ take (i + 8 - i) (drop i s) → from_be_bytes w64 y ≡ big_of 8 0 (drop i s)
big_is s i y h e =
    let n : i + 8 - i ≡ 8 = omega arith in
    rw (e, n) (big_first (drop i s) (omega (arith, length-drop i s)))
