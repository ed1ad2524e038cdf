-- The order of two keys by whole words and then by the rest, and of two records whose keys have zeros after them.
use mathlib.Core.Path.{◌≡◌, refl, sym, ap, ◌∙◌}
use mathlib.Core.Logic.{◌⊎◌, inl, inr, ⊎_elim}
use mathlib.Core.Bool.{Bool, true, false, cond, not, ◌||◌, false≢true}
use mathlib.Core.List.{List}
use Prim.Native.Nat.{ℕ, ◌+◌, ◌*◌, ◌-◌, ◌/◌, ◌≤◌, ◌<◌, min}
use native.Mathlib.Omega.{arith}
use borrow.Author.Tests.{ne_eqb, lt-ltb, le-ltb, ltb-true, ltb-false, leb-true, leb-false, not-false}
use lib.Dec.{eqb, ltb, leb}
use lib.IntN.{ℤ, pos, negsuc}
use lib.Signed.{lt_z}
use lib.ListN.{length, take, drop, length-drop}
use lib.Seq.{drop-drop, take_all}
use Rattle.std.specs.Cmp.{ranked}
use Rattle.std.specs.Ordering.{MatchOrdering, nat_cmp, is_ne, is_lt, ordering_then}
use Rattle.std.specs.declared.cmp.Ordering.{Ordering}
use Rattle.std.specs.declared.cmp.Ordering.TheVariants.{Less, Equal, Greater}
use Rattle.model.specs.declared.Reading.{Reading}
use Rattle.model.specs.declared.Reading.TheVariants as reads
use Rattle.model.specs.keys.Key.{max_len}
use Rattle.model.specs.keys.Order.{Element, key, lte, lt, cmp, sign}
use Rattle.model.specs.records.Record.{max_mark, length_field, all_zero, reading, element_reading, key_bytes, element}
use Rattle.model.proofs.Lists.{rest}
use Rattle.model.proofs.keys.Parts.{first_decides, rest_decides, padded_decides, length_decides}
use Rattle.model.proofs.records.Record.{key_read, max_read}
use Rattle.scan.specs.Word.{whole}
use Rattle.keys.specs.Padded.{Padded, ordered, decided, words, padded_order}
use Rattle.keys.proofs.Elements.{told_below}

-- an order other than equal is told apart
pub unequal : (o : Ordering) → is_ne o ≡ true → sign o ≡ pos 0 → ⊥
unequal Less h e = false≢true (sym (ap (λ (z : ℤ). lt_z z (pos 0)) e))
unequal Equal h e = false≢true h
unequal Greater h e = false≢true (sym (ap (λ (z : ℤ). lt_z (pos 0) z) e))

pub equal : (o : Ordering) → is_ne o ≡ false → sign o ≡ pos 0
equal Less h = absurd (false≢true (sym h))
equal Equal h = refl
equal Greater h = absurd (false≢true (sym h))

-- ---- two keys

whole_within : (a b : List ℕ) → (whole a b ≤ length a) × (whole a b ≤ length b)
unfolding whole
whole_within a b = (omega arith, omega arith)

module _ (a b : List ℕ) (o : Ordering) (e : sign o ≡ cmp (key (take (whole a b) a)) (key (take (whole a b) b))) where
  -- words that differ decide
  pub words_decide : (t : Bool) → t ≡ is_ne o → t ≡ true → sign o ≡ cmp (key a) (key b)
  words_decide t h d = e ∙ sym (first_decides (whole a b) a b (whole_within a b).0 (whole_within a b).1 (λ z. unequal o (sym h ∙ d) (e ∙ z)))

  -- and where they agree the rest does
  pub rest_decides_words : (t : Bool) (n : ℕ) (y : Ordering) → t ≡ is_ne o → t ≡ false → n ≡ min (length a) (length b)
      → sign y ≡ cmp (key (take (length a - n / 8 * 8) (drop (n / 8 * 8) a))) (key (take (length b - n / 8 * 8) (drop (n / 8 * 8) b)))
      → sign y ≡ cmp (key a) (key b)
  unfolding whole
  rest_decides_words t n y h d f g =
      (rw (rest a (n / 8 * 8), rest b (n / 8 * 8)) at g)
      ∙ rw f (sym (rest_decides (whole a b) a b (whole_within a b).0 (whole_within a b).1 (sym e ∙ equal o (sym h ∙ d))))

-- ---- two records

-- a record that is read as an element has a key's length field or max's
data Said (r : List ℕ) : Type 0 where
  says_key : length_field r ≤ 64 → all_zero (drop (2 + length_field r) r) ≡ true → Said r
  says_max : length_field r ≡ max_mark → Said r

said : (r : List ℕ) → Padded r → Said r
said r p = go (reading r) refl p.1
  where
    go : (v : Reading) → reading r ≡ v → element_reading v ≡ true → Said r
    go (reads.Key n) e h = let w = key_read r n e in says_key (omega (arith, w.field, w.short)) (rw w.field w.tail)
    go reads.Malformed e h = absurd (false≢true h)
    go reads.NoEdge e h = absurd (false≢true h)
    go reads.Max e h = says_max (max_read r e).field

-- one that was found to be an element's is
pub held : (r : List ℕ) (t : Bool) → t ≡ element_reading (reading r) → not t ≡ false → element_reading (reading r) ≡ true
held r t e h = sym e ∙ not-false t h

-- ---- the order of two numbers

-- not at most is below
other_test : (x y : ℕ) → not (leb y x) ≡ ltb x y
other_test x y = go (leb y x) refl
  where
    go : (t : Bool) → leb y x ≡ t → not t ≡ ltb x y
    go true e = sym (le-ltb x y (leb-true y x e))
    go false e = sym (lt-ltb x y (leb-false y x e))

number_order : (x y : ℕ) (o : Ordering) → o ≡ nat_cmp x y → sign o ≡ ordered x y
number_order x y o r = go o (ranked x y o r)
  where
    go : (o : Ordering) → MatchOrdering o (x < y) (x ≡ y) (y < x) → sign o ≡ ordered x y
    go Less h = rw (lt-ltb x y h)
    go Equal h = rw (le-ltb x y (omega arith), le-ltb y x (omega arith))
    go Greater h = rw (le-ltb x y (omega arith), lt-ltb y x h)

-- ---- what two records stand for

key_mark : (r : List ℕ) → length_field r ≤ 64 → eqb (length_field r) max_mark ≡ false
key_mark r h = ne_eqb (length_field r) max_mark (λ e. omega arith)

module _ (a b : List ℕ) (p : Padded a) (q : Padded b) where
  -- where one is max the length fields decide
  by_fields : (64 < length_field a) ⊎ (64 < length_field b) → ordered (length_field a) (length_field b) ≡ cmp (element a) (element b)
  unfolding element cmp lte
  by_fields h = go (said a p) (said b q)
    where
      go : Said a → Said b → ordered (length_field a) (length_field b) ≡ cmp (element a) (element b)
      go (says_max e) (says_max f) = rw (e, f)
      go (says_max e) (says_key f z) = rw (e, key_mark b f, le-ltb max_mark (length_field b) (omega arith), lt-ltb (length_field b) max_mark (omega arith))
      go (says_key e z) (says_max f) = rw (f, key_mark a e, lt-ltb (length_field a) max_mark (omega arith))
      go (says_key e z) (says_key f y) = absurd (⊎_elim (λ (u : 64 < length_field a). omega arith) (λ (u : 64 < length_field b). omega arith) h)

  -- two keys: the words that differ decide
  module _ (h : length_field a ≤ 64) (k : length_field b ≤ 64) where
    keys_cmp : cmp (element a) (element b) ≡ cmp (key (take (length_field a) (drop 2 a))) (key (take (length_field b) (drop 2 b)))
    unfolding element key_bytes
    keys_cmp = rw (key_mark a h, key_mark b k)

    tail_zero : (r : List ℕ) → Padded r → length_field r ≤ 64 → all_zero (drop (length_field r) (drop 2 r)) ≡ true
    tail_zero r s l = go (said r s)
      where
        go : Said r → all_zero (drop (length_field r) (drop 2 r)) ≡ true
        go (says_key f z) = rw drop-drop z
        go (says_max f) = absurd (omega arith)

    even : length (drop 2 a) ≡ length (drop 2 b)
    even = rw (length-drop, length-drop, p.0, q.0)

    padded_words : (cmp (key (drop 2 a)) (key (drop 2 b)) ≡ pos 0 → ⊥) → cmp (element a) (element b) ≡ cmp (key (drop 2 a)) (key (drop 2 b))
    padded_words d =
        keys_cmp
        ∙ padded_decides (drop 2 a) (drop 2 b) (length_field a) (length_field b) even (omega (arith, length-drop 2 a, p.0)) (omega (arith, length-drop 2 b, q.0))
        (tail_zero a p h) (tail_zero b q k) d

    padded_lengths : cmp (key (drop 2 a)) (key (drop 2 b)) ≡ pos 0 → cmp (element a) (element b) ≡ ordered (length_field a) (length_field b)
    padded_lengths d =
        keys_cmp
        ∙ length_decides (drop 2 a) (drop 2 b) (length_field a) (length_field b) even (omega (arith, length-drop 2 a, p.0)) (omega (arith, length-drop 2 b, q.0))
        (tail_zero a p h) (tail_zero b q k) d
        ∙ rw (other_test (length_field a) (length_field b), other_test (length_field b) (length_field a))

-- ---- the order of two records by their bytes

-- an order is 0 or it isn't
zero_or : (x y : Element) → (cmp x y ≡ pos 0) ⊎ (cmp x y ≡ pos 0 → ⊥)
unfolding cmp
zero_or x y = go (lt x y) (lt y x)
  where
    go : (s t : Bool) → (cond s (negsuc 0) (cond t (pos 1) (pos 0)) ≡ pos 0) ⊎ (cond s (negsuc 0) (cond t (pos 1) (pos 0)) ≡ pos 0 → ⊥)
    go true t = inr (λ e. false≢true (sym (ap (λ (z : ℤ). lt_z z (pos 0)) e)))
    go false true = inr (λ e. false≢true (sym (ap (λ (z : ℤ). lt_z (pos 0) z) e)))
    go false false = inl refl

decided_differ : (x y : Element) (w : ℤ) → (cmp x y ≡ pos 0 → ⊥) → cmp x y ≡ decided x y w
unfolding cmp
decided_differ x y w d = go (lt x y) (lt y x) d
  where
    go : (s t : Bool) → (cond s (negsuc 0) (cond t (pos 1) (pos 0)) ≡ pos 0 → ⊥) → cond s (negsuc 0) (cond t (pos 1) (pos 0)) ≡ cond s (negsuc 0) (cond t (pos 1) w)
    go true t h = refl
    go false true h = refl
    go false false h = absurd (h refl)

decided_agree : (x y : Element) (w : ℤ) → cmp x y ≡ pos 0 → w ≡ decided x y w
unfolding cmp
decided_agree x y w e = go (lt x y) (lt y x) e
  where
    go : (s t : Bool) → cond s (negsuc 0) (cond t (pos 1) (pos 0)) ≡ pos 0 → w ≡ cond s (negsuc 0) (cond t (pos 1) w)
    go true t h = absurd (false≢true (sym (ap (λ (z : ℤ). lt_z z (pos 0)) h)))
    go false true h = absurd (false≢true (sym (ap (λ (z : ℤ). lt_z (pos 0) z) h)))
    go false false h = refl

module _ (a b : List ℕ) where
  by_left : max_len < length_field a → padded_order a b ≡ ordered (length_field a) (length_field b)
  unfolding padded_order
  by_left h = rw (lt-ltb max_len (length_field a) h)

  by_right : max_len < length_field b → padded_order a b ≡ ordered (length_field a) (length_field b)
  unfolding padded_order
  by_right h = rw (lt-ltb max_len (length_field b) h) (go (ltb max_len (length_field a)))
    where
      go : (t : Bool) → cond (t || true) (ordered (length_field a) (length_field b)) (decided (words a b a) (words a b b) (ordered (length_field a) (length_field b))) ≡ ordered (length_field a) (length_field b)
      go true = refl
      go false = refl

  by_words_lem : length_field a ≤ max_len → length_field b ≤ max_len → padded_order a b ≡ decided (words a b a) (words a b b) (ordered (length_field a) (length_field b))
  unfolding padded_order
  by_words_lem h k = rw (le-ltb max_len (length_field a) h, le-ltb max_len (length_field b) k)

-- ---- its returns

module _ (a b : List ℕ) (x y : ℕ) (e : x ≡ length_field a) (f : y ≡ length_field b) (v : Ordering) (g : v ≡ nat_cmp x y) where
  pub left_mark : 64 < x → sign v ≡ padded_order a b
  left_mark h = number_order x y v g ∙ rw (e, f) (sym (by_left a b (rw (← e) h)))

  pub right_mark : 64 < y → sign v ≡ padded_order a b
  right_mark h = number_order x y v g ∙ rw (e, f) (sym (by_right a b (rw (← f) h)))

  module _ (h : x ≤ 64) (k : y ≤ 64) (s t : List ℕ) (m : s ≡ drop 2 a) (n : t ≡ drop 2 b)
      (o : Ordering) (u : sign o ≡ cmp (key (take (whole s t) s)) (key (take (whole s t) t))) where
    told : sign o ≡ cmp (words a b a) (words a b b)
    told = rw (m, n) at u

    then_fields : sign (ordering_then o v) ≡ decided (words a b a) (words a b b) (ordered x y)
    then_fields = go o told
      where
        go : (o : Ordering) → sign o ≡ cmp (words a b a) (words a b b) → sign (ordering_then o v) ≡ decided (words a b a) (words a b b) (ordered x y)
        go Less w = w ∙ decided_differ (words a b a) (words a b b) (ordered x y) (λ z. unequal Less refl (w ∙ z))
        go Equal w = number_order x y v g ∙ decided_agree (words a b a) (words a b b) (ordered x y) (sym w)
        go Greater w = w ∙ decided_differ (words a b a) (words a b b) (ordered x y) (λ z. unequal Greater refl (w ∙ z))

    pub words_first : (r : Ordering) → r ≡ ordering_then o v → sign r ≡ padded_order a b
    words_first r w = ap sign w ∙ then_fields ∙ rw (e, f) (sym (by_words_lem a b (rw (← e) h) (rw (← f) k)))

-- ---- of records that are read as elements it is the order of what they stand for

-- 64 bytes are whole words
all_words : (a b : List ℕ) → length a ≡ 66 → length b ≡ 66 → (words a b a ≡ key (drop 2 a)) × (words a b b ≡ key (drop 2 b))
unfolding whole
all_words a b h k =
    let e = length-drop 2 a in
    let f = length-drop 2 b in
    (ap key (take_all (min (length (drop 2 a)) (length (drop 2 b)) / 8 * 8) (drop 2 a) (omega arith)), ap key (take_all (min (length (drop 2 a)) (length (drop 2 b)) / 8 * 8) (drop 2 b) (omega arith)))

module _ (a b : List ℕ) (p : Padded a) (q : Padded b) where
  keys_ordered : length_field a ≤ max_len → length_field b ≤ max_len → decided (key (drop 2 a)) (key (drop 2 b)) (ordered (length_field a) (length_field b)) ≡ cmp (element a) (element b)
  keys_ordered h k =
      ⊎_elim
      (λ (z : cmp (key (drop 2 a)) (key (drop 2 b)) ≡ pos 0). sym (decided_agree (key (drop 2 a)) (key (drop 2 b)) (ordered (length_field a) (length_field b)) z) ∙ sym (padded_lengths a b p q h k z))
      (λ (d : cmp (key (drop 2 a)) (key (drop 2 b)) ≡ pos 0 → ⊥). sym (decided_differ (key (drop 2 a)) (key (drop 2 b)) (ordered (length_field a) (length_field b)) d) ∙ sym (padded_words a b p q h k d))
      (zero_or (key (drop 2 a)) (key (drop 2 b)))

  pub padded_elements : padded_order a b ≡ cmp (element a) (element b)
  padded_elements = go (ltb max_len (length_field a)) (ltb max_len (length_field b)) refl refl
    where
      go : (s t : Bool) → ltb max_len (length_field a) ≡ s → ltb max_len (length_field b) ≡ t → padded_order a b ≡ cmp (element a) (element b)
      go true t e f = let h = ltb-true max_len (length_field a) e in by_left a b h ∙ by_fields a b p q (inl h)
      go false true e f = let h = ltb-true max_len (length_field b) f in by_right a b h ∙ by_fields a b p q (inr h)
      go false false e f =
          let h = ltb-false max_len (length_field a) e in
          let k = ltb-false max_len (length_field b) f in
          let w = all_words a b p.0 q.0 in
          by_words_lem a b h k ∙ rw (w.0, w.1) (keys_ordered h k)

  pub padded_told : (o : Ordering) → sign o ≡ padded_order a b → sign o ≡ cmp (element a) (element b)
  padded_told o e = e ∙ padded_elements

  pub padded_below : (o : Ordering) → sign o ≡ padded_order a b → is_lt o ≡ lt (element a) (element b)
  padded_below o e = told_below (element a) (element b) o (e ∙ padded_elements)

-- both were found to be elements'
pub elements_told : (a b : List ℕ) (s t : Bool) (o : Ordering) → length a ≡ 66 → length b ≡ 66 → s ≡ element_reading (reading a) → not s ≡ false
    → t ≡ element_reading (reading b) → not t ≡ false → sign o ≡ padded_order a b → sign o ≡ cmp (element a) (element b)
elements_told a b s t o l m e h f k g = padded_told a b (l, held a s e h) (m, held b t f k) o g
