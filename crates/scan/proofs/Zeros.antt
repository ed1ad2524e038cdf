-- Zeros to the end of a list, by words: zeros make words of zero, and a word of zero is zeros.
use mathlib.Core.Path.{◌≡◌, refl, sym, ◌∙◌}
use mathlib.Core.Bool.{Bool, true, false}
use mathlib.Core.List.{List, [], ◌∷◌}
use Prim.Native.Nat.{ℕ, zero, suc, ◌+◌, ◌*◌, ◌-◌, ◌/◌, ◌^◌, ◌≤◌, ◌<◌}
use native.Mathlib.Omega.{arith}
use mir.Syntax.{w8}
use mir.Val.{Fits}
use borrow.Author.Tests.{eq-eqb, eqb-true, eqb-false}
use lib.Dec.{eqb}
use lib.ListN.{length, drop, get_or, length-drop, drop_of_length-le}
use lib.Pow.{shr-shr}
use lib.Seq.{drop-drop}
use Rattle.model.specs.keys.Key.{Bytes}
use Rattle.model.specs.records.Record.{all_zero}
use Rattle.model.proofs.keys.Key.{both, bytes_of, bytes_drop}
use Rattle.model.proofs.keys.Order.{refuted}
use Rattle.scan.specs.Word.{word_of}
use Rattle.scan.proofs.ByWords.{head_byte}

-- after a word of zero the rest decides
zero_word : (n : ℕ) (a : List ℕ) → n ≤ length a → word_of n a ≡ 0 → all_zero (drop n a) ≡ all_zero a
unfolding word_of all_zero
zero_word zero a h e = refl
zero_word (suc n) [] h e = refl
zero_word (suc n) (x ∷ a) h e =
    let s : x ≡ 0 = omega arith in
    rw (eq-eqb x 0 s) (zero_word n a (omega arith) (omega arith))

-- zeros make words of zero
zeros_word : (n : ℕ) (a : List ℕ) → all_zero a ≡ true → word_of n a ≡ 0
unfolding word_of all_zero
zeros_word zero a h = refl
zeros_word (suc n) [] h = omega (arith, zeros_word n [] h)
zeros_word (suc n) (x ∷ a) h =
    let t = both (eqb x 0) (all_zero a) h in
    omega (arith, eqb-true x 0 t.0, zeros_word n a t.1)

-- zeros are zeros from each place on
zeros_drop : (n : ℕ) (a : List ℕ) → all_zero a ≡ true → all_zero (drop n a) ≡ true
unfolding all_zero
zeros_drop zero a h = h
zeros_drop (suc n) [] h = h
zeros_drop (suc n) (x ∷ a) h = zeros_drop n a (both (eqb x 0) (all_zero a) h).1

zeros_from : (a : List ℕ) (i j : ℕ) → i ≤ j → all_zero (drop i a) ≡ true → all_zero (drop j a) ≡ true
zeros_from a i j h z =
    let e : i + (j - i) ≡ j = omega arith in
    rw (drop-drop, e) at (zeros_drop (j - i) (drop i a) z)

-- ---- a word of m bytes at the place i, which is not before from

module _ (m : ℕ) (a : List ℕ) (from i x : ℕ) (u : x ≡ word_of m (drop i a)) (h : from ≤ i) where
  -- one that isn't zero is not among zeros
  no_zeros : (x ≡ 0 → ⊥) → false ≡ all_zero (drop from a)
  no_zeros d = sym (refuted (all_zero (drop from a)) (λ z. d (u ∙ zeros_word m (drop i a) (zeros_from a from i h z))))

  -- one that ends the list decides, where all before a place in it is zero
  last_word : (j : ℕ) → i + m ≡ length a → i ≤ j → all_zero (drop j a) ≡ all_zero (drop from a) → eqb x 0 ≡ all_zero (drop from a)
  unfolding all_zero
  last_word j l k s = go (eqb x 0) refl
    where
      go : (t : Bool) → eqb x 0 ≡ t → t ≡ all_zero (drop from a)
      go true e =
          let q : length a ≤ i + m = omega arith in
          let w = zero_word m (drop i a) (omega (arith, length-drop i a)) (sym u ∙ eqb-true x 0 e) in
          let z : all_zero (drop i a) ≡ true = sym (rw (drop-drop, drop_of_length-le a q) at w) in
          sym (zeros_from a i j k z) ∙ s
      go false e = no_zeros (eqb-false x 0 e)

-- ---- in the course of a scan by words of eight

-- the bytes from one place up to another are zero
pub record Cleared (a : List ℕ) (from i : ℕ) : Type 0 where
  pub begun : from ≤ i
  pub same : all_zero (drop i a) ≡ all_zero (drop from a)

-- at the start there are none
pub cleared_start : (a : List ℕ) (from : ℕ) → Cleared a from from
cleared_start a from = record { begun = omega arith; same = refl }

module _ (a : List ℕ) (from i x : ℕ) (c : Cleared a from i) where
  -- a word that isn't zero decides
  pub word_spoils : x ≡ word_of 8 (drop i a) → (x ≡ 0 → ⊥) → false ≡ all_zero (drop from a)
  word_spoils u = no_zeros 8 a from i x u c.begun

  -- one of zero is passed
  pub word_cleared : x ≡ word_of 8 (drop i a) → x ≡ 0 → i < length a - 8 → Cleared a from (i + 8)
  word_cleared u z l =
      let w = zero_word 8 (drop i a) (omega (arith, length-drop i a)) (sym u ∙ z) in
      record { begun = omega (arith, c.begun); same = (rw drop-drop at w) ∙ c.same }

  -- and the last decides
  pub last_cleared : from + 8 ≤ length a → length a - 8 ≤ i → x ≡ word_of 8 (drop (length a - 8) a) → eqb x 0 ≡ all_zero (drop from a)
  last_cleared l h u = last_word 8 a from (length a - 8) x u (omega arith) i (omega arith) h c.same

-- ---- the end of a word

-- a shift takes the first bytes of a word off
word_shift : (k n : ℕ) (l : List ℕ) → Bytes l → word_of (k + n) l / 2 ^ (8 * k) ≡ word_of n (drop k l)
unfolding word_of
word_shift zero n l p = let e : 0 + n ≡ n = omega arith in rw e (omega arith)
word_shift (suc k) n l p =
    let e : suc k + n ≡ suc (k + n) = omega arith in
    let f : 8 * suc k ≡ 8 + 8 * k = omega arith in
    let g : 1 + k ≡ suc k = omega arith in
    let d : drop k (drop 1 l) ≡ drop (suc k) l = rw (drop-drop, g) in
    let b = head_byte l p in
    let t : (get_or l 0 0 + 256 * word_of (k + n) (drop 1 l)) / 2 ^ 8 ≡ word_of (k + n) (drop 1 l) = omega arith in
    rw (e, f, ← shr-shr (get_or l 0 0 + 256 * word_of (k + n) (drop 1 l)) 8 (8 * k), t, ← d) (word_shift k n (drop 1 l) (bytes_drop 1 l p))

-- where what is left of the last word is zero, all bytes from the place on are, and only there
pub end_cleared : (a : List ℕ) (from x : ℕ) → 8 ≤ length a → length a < from + 8 → from < length a → x ≡ word_of 8 (drop (length a - 8) a)
    → ((j : ℕ) → Fits w8 (get_or a j 0)) → eqb (x / 2 ^ (8 * (from - (length a - 8)))) 0 ≡ all_zero (drop from a)
end_cleared a from x h k l u p =
    let before = from - (length a - 8) in
    let left = length a - from in
    let e : from - (length a - 8) + (length a - from) ≡ 8 = omega arith in
    let f : length a - 8 + (from - (length a - 8)) ≡ from = omega arith in
    let w = rw e at (word_shift (from - (length a - 8)) (length a - from) (drop (length a - 8) a) (bytes_drop (length a - 8) a (bytes_of a p))) in
    let s : x / 2 ^ (8 * (from - (length a - 8))) ≡ word_of (length a - from) (drop from a) = rw u (w ∙ rw (drop-drop, f)) in
    last_word (length a - from) a from from (x / 2 ^ (8 * (from - (length a - 8)))) s (omega arith) from (omega arith) (omega arith) refl
