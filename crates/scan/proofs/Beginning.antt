-- Words of a key and of what it begins with agree, and where they do the rest decides.
use mathlib.Core.Path.{◌≡◌, refl, sym, ◌∙◌}
use mathlib.Core.Bool.{Bool, true, false, true≢false}
use mathlib.Core.List.{List, [], ◌∷◌}
use Prim.Native.Nat.{ℕ, zero, suc, ◌+◌, ◌*◌, ◌-◌, ◌/◌, ◌≤◌, ◌<◌}
use native.Mathlib.Omega.{arith}
use mir.Syntax.{w8}
use mir.Val.{Fits}
use borrow.Author.Tests.{eq-eqb, eqb-true, eqb-false}
use lib.Dec.{eqb}
use lib.ListN.{length, drop, get_or, length-drop, drop_of_length-le}
use lib.Seq.{drop-drop}
use Rattle.model.specs.keys.Key.{Bytes, IsPrefix}
use Rattle.model.proofs.keys.Key.{both, bytes_of, bytes_drop, prefix_length}
use Rattle.scan.specs.Word.{word_of}

-- where the first n bytes make one word, what follows them decides
same_word : (n : ℕ) (a b : List ℕ) → n ≤ length a → n ≤ length b → Bytes a → Bytes b → word_of n a ≡ word_of n b
    → IsPrefix (drop n a) (drop n b) ≡ IsPrefix a b
unfolding word_of IsPrefix
same_word zero a b h k p q e = refl
same_word (suc n) [] b h k p q e = absurd (omega arith)
same_word (suc n) (x ∷ a) [] h k p q e = absurd (omega arith)
same_word (suc n) (x ∷ a) (y ∷ b) h k p q e =
    let u = p.0 in
    let v = q.0 in
    let s : x ≡ y = omega arith in
    rw (eq-eqb x y s) (same_word n a b (omega arith) (omega arith) p.1 q.1 (omega arith))

-- a prefix makes the words of what it begins
prefix_word : (n : ℕ) (a b : List ℕ) → n ≤ length a → IsPrefix a b ≡ true → word_of n a ≡ word_of n b
unfolding word_of IsPrefix
prefix_word zero a b h e = refl
prefix_word (suc n) [] b h e = absurd (omega arith)
prefix_word (suc n) (x ∷ a) [] h e = absurd (true≢false (sym e))
prefix_word (suc n) (x ∷ a) (y ∷ b) h e =
    let w = both (eqb x y) (IsPrefix a b) e in
    omega (arith, eqb-true x y w.0, prefix_word n a b (omega arith) w.1)

-- what is left of a prefix from a place on begins what is left of the key
prefix_drop : (n : ℕ) (a b : List ℕ) → IsPrefix a b ≡ true → IsPrefix (drop n a) (drop n b) ≡ true
unfolding IsPrefix
prefix_drop zero a b e = e
prefix_drop (suc n) [] b e = refl
prefix_drop (suc n) (x ∷ a) [] e = absurd (true≢false (sym e))
prefix_drop (suc n) (x ∷ a) (y ∷ b) e = prefix_drop n a b (both (eqb x y) (IsPrefix a b) e).1

-- a key with fewer bytes does not begin with p
pub shorter : (p k : List ℕ) → length k < length p → false ≡ IsPrefix p k
shorter p k h = go (IsPrefix p k) refl
  where
    go : (t : Bool) → IsPrefix p k ≡ t → false ≡ t
    go true e = absurd (omega (arith, prefix_length p k e))
    go false e = refl

-- words at a place inside p
module _ (p k : List ℕ) (i : ℕ) (h : i + 8 ≤ length p) (x y : ℕ) (u : x ≡ word_of 8 (drop i p)) (v : y ≡ word_of 8 (drop i k)) where
  differs : (x ≡ y → ⊥) → false ≡ IsPrefix p k
  differs d = go (IsPrefix p k) refl
    where
      go : (t : Bool) → IsPrefix p k ≡ t → false ≡ t
      go true e = absurd (d (u ∙ prefix_word 8 (drop i p) (drop i k) (omega (arith, length-drop i p)) (prefix_drop i p k e) ∙ sym v))
      go false e = refl

  agrees : length p ≤ length k → ((j : ℕ) → Fits w8 (get_or p j 0)) → ((j : ℕ) → Fits w8 (get_or k j 0)) → x ≡ y
      → IsPrefix (drop (i + 8) p) (drop (i + 8) k) ≡ IsPrefix (drop i p) (drop i k)
  agrees l s t e =
      let w = same_word 8 (drop i p) (drop i k) (omega (arith, length-drop i p)) (omega (arith, length-drop i k))
      (bytes_drop i p (bytes_of p s)) (bytes_drop i k (bytes_of k t)) (sym u ∙ e ∙ v) in
      rw (drop-drop, drop-drop) at w

-- p and k agree up to the place i, so what follows decides
pub record Begun (p k : List ℕ) (i : ℕ) : Type 0 where
  pub within : i ≤ length p
  pub same : IsPrefix (drop i p) (drop i k) ≡ IsPrefix p k

-- at the start nothing is decided
pub begins_start : (p k : List ℕ) → Begun p k 0
begins_start p k = record { within = omega arith; same = refl }

-- ---- the words before the last

module _ (p k : List ℕ) (i : ℕ) (h : i < length p - 8) (x y : ℕ) (u : x ≡ word_of 8 (drop i p)) (v : y ≡ word_of 8 (drop i k)) where
  -- a word that differs decides
  pub word_differs : (x ≡ y → ⊥) → false ≡ IsPrefix p k
  word_differs d = differs p k i (omega arith) x y u v d

  -- one that agrees is passed
  pub begins_on : x ≡ y → length p ≤ length k → ((j : ℕ) → Fits w8 (get_or p j 0)) → ((j : ℕ) → Fits w8 (get_or k j 0)) → Begun p k i → Begun p k (i + 8)
  begins_on e l s t g = record { within = omega arith; same = agrees p k i (omega arith) x y u v l s t e ∙ g.same }

-- the same of the word of that number
pub begins_number : (p k : List ℕ) (i x y : ℕ) → i < (length p - 8 + 7) / 8 → x ≡ word_of 8 (drop (8 * i) p) → y ≡ word_of 8 (drop (8 * i) k) → x ≡ y
    → length p ≤ length k → ((j : ℕ) → Fits w8 (get_or p j 0)) → ((j : ℕ) → Fits w8 (get_or k j 0)) → Begun p k (8 * i) → Begun p k (8 * (i + 1))
begins_number p k i x y h u v e l s t g =
    let n : 8 * (i + 1) ≡ 8 * i + 8 = omega arith in
    rw n (begins_on p k (8 * i) (omega arith) x y u v e l s t g)

-- ---- the last, where those before it agree up to the place j

module _ (p k : List ℕ) (h : 8 ≤ length p) (l : length p ≤ length k) (j x y : ℕ) (m : length p - 8 ≤ j) (u : x ≡ word_of 8 (drop (length p - 8) p)) (v : y ≡ word_of 8 (drop (length p - 8) k))
    (g : Begun p k j) (s : (j : ℕ) → Fits w8 (get_or p j 0)) (t : (j : ℕ) → Fits w8 (get_or k j 0)) where
  last_agrees : x ≡ y → IsPrefix p k ≡ true
  unfolding IsPrefix
  last_agrees e =
      let z : length p ≤ length p - 8 + 8 = omega arith in
      let w : IsPrefix (drop (length p - 8) p) (drop (length p - 8) k) ≡ true = sym (agrees p k (length p - 8) (omega arith) x y u v l s t e) ∙ rw (drop_of_length-le p z) in
      let f : length p - 8 + (j - (length p - 8)) ≡ j = omega arith in
      sym g.same ∙ (rw (drop-drop, drop-drop, f) at (prefix_drop (j - (length p - 8)) (drop (length p - 8) p) (drop (length p - 8) k) w))

  -- its test is the answer
  pub last_decides : eqb x y ≡ IsPrefix p k
  last_decides = go (eqb x y) refl
    where
      go : (b : Bool) → eqb x y ≡ b → b ≡ IsPrefix p k
      go true e = sym (last_agrees (eqb-true x y e))
      go false e = differs p k (length p - 8) (omega arith) x y u v (eqb-false x y e)
