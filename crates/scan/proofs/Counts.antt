-- The count by words is the count by single bytes, for all pairs of byte lists, and both are the length of the common run.
use mathlib.Core.Path.{◌≡◌, refl, sym, ap, ◌∙◌}
use mathlib.Core.Bool.{Bool, true, false, cond, ◌&&◌}
use mathlib.Core.List.{List, [], ◌∷◌}
use Prim.Native.Nat.{ℕ, zero, suc, ◌+◌, ◌-◌, ◌≤◌, min}
use native.Mathlib.Omega.{arith}
use borrow.Author.Tests.{eqb-true, eq-eqb, leb-true, le-leb}
use lib.Dec.{eqb, leb}
use lib.ListN.{length, drop, length-drop}
use mir.Syntax.{w8}
use mir.Val.{Fits}
use lib.ListN.{get_or}
use Rattle.model.specs.keys.Key.{Bytes, common_run}
use Rattle.model.proofs.keys.Key.{both, bytes_of, bytes_drop}
use Rattle.model.proofs.keys.Order.{refuted}
use Rattle.scan.specs.Word.{word_of}
use Rattle.scan.specs.Count.{by_bytes, up_to_words, by_words}
use Rattle.scan.proofs.ByWords.{common_words}

-- single bytes count the common run
pub bytes_count : (a b : List ℕ) → by_bytes a b ≡ length (common_run a b)
unfolding by_bytes common_run
bytes_count [] b = refl
bytes_count (x ∷ a) [] = refl
bytes_count (x ∷ a) (y ∷ b) = go (eqb x y) (bytes_count a b)
  where
    go : (t : Bool) → by_bytes a b ≡ length (common_run a b) → cond t (suc (by_bytes a b)) 0 ≡ length (cond t (x ∷ common_run a b) [])
    go true h = ap suc h
    go false h = refl

-- however many words are tried first
words_count : (n : ℕ) (a b : List ℕ) → Bytes a → Bytes b → up_to_words n a b ≡ by_bytes a b
unfolding up_to_words
words_count zero a b p q = refl
words_count (suc n) a b p q =
    go (leb 8 (min (length a) (length b)) && eqb (word_of 8 a) (word_of 8 b)) refl (words_count n (drop 8 a) (drop 8 b) (bytes_drop 8 a p) (bytes_drop 8 b q))
  where
    go : (t : Bool) → (leb 8 (min (length a) (length b)) && eqb (word_of 8 a) (word_of 8 b)) ≡ t → up_to_words n (drop 8 a) (drop 8 b) ≡ by_bytes (drop 8 a) (drop 8 b)
        → cond t (8 + up_to_words n (drop 8 a) (drop 8 b)) (by_bytes a b) ≡ by_bytes a b
    go true e h =
        let w = both (leb 8 (min (length a) (length b))) (eqb (word_of 8 a) (word_of 8 b)) e in
        let l = leb-true 8 (min (length a) (length b)) w.0 in
        let c = common_words 8 a b (omega arith) (omega arith) p q (eqb-true (word_of 8 a) (word_of 8 b) w.1) in
        omega (arith, h, c, bytes_count a b, bytes_count (drop 8 a) (drop 8 b))
    go false e h = refl

-- the law: both counts are one, for all pairs of byte lists
pub same_count : (a b : List ℕ) → Bytes a → Bytes b → by_words a b ≡ by_bytes a b
unfolding by_words
same_count a b = words_count (length a) a b

-- ---- the count by words goes by words, for all lists of numbers

-- whether there is a word more on both sides that agrees
abbrev word_more : List ℕ → List ℕ → Bool
word_more a b = leb 8 (min (length a) (length b)) && eqb (word_of 8 a) (word_of 8 b)

no_word : (a b : List ℕ) → length a ≤ 0 → word_more a b ≡ false
no_word a b h = refuted (word_more a b) (λ e. let l = leb-true 8 (min (length a) (length b)) (both _ _ e).0 in omega arith)

-- there are never more words to try than bytes
enough : (n m : ℕ) (a b : List ℕ) → length a ≤ n → length a ≤ m → up_to_words n a b ≡ up_to_words m a b
unfolding up_to_words
enough zero zero a b h k = refl
enough zero (suc m) a b h k = rw (no_word a b h)
enough (suc n) zero a b h k = rw (no_word a b k)
enough (suc n) (suc m) a b h k = go (word_more a b) refl (enough n m (drop 8 a) (drop 8 b))
  where
    go : (t : Bool) → word_more a b ≡ t
        → (length (drop 8 a) ≤ n → length (drop 8 a) ≤ m → up_to_words n (drop 8 a) (drop 8 b) ≡ up_to_words m (drop 8 a) (drop 8 b))
        → cond t (8 + up_to_words n (drop 8 a) (drop 8 b)) (by_bytes a b) ≡ cond t (8 + up_to_words m (drop 8 a) (drop 8 b)) (by_bytes a b)
    go true e r =
        let l = leb-true 8 (min (length a) (length b)) (both _ _ e).0 in
        ap (◌+◌ 8) (r (omega (arith, length-drop 8 a)) (omega (arith, length-drop 8 a)))
    go false e r = refl

-- a word that agrees counts eight, and the rest is counted in the same way
pub word_by_word : (a b : List ℕ) → 8 ≤ length a → 8 ≤ length b → word_of 8 a ≡ word_of 8 b → by_words a b ≡ 8 + by_words (drop 8 a) (drop 8 b)
unfolding by_words up_to_words
word_by_word a b h k e =
    let z : length a ≡ suc (length a - 1) = omega arith in
    let t : word_more a b ≡ true = rw (le-leb 8 (min (length a) (length b)) (omega arith), eq-eqb (word_of 8 a) (word_of 8 b) e) in
    ap (λ (n : ℕ). up_to_words n a b) z
    ∙ rw t (ap (◌+◌ 8) (enough (length a - 1) (length (drop 8 a)) (drop 8 a) (drop 8 b) (omega (arith, length-drop 8 a)) (omega arith)))

-- where there is none, single bytes are counted
pub then_singly : (a b : List ℕ) → word_more a b ≡ false → by_words a b ≡ by_bytes a b
unfolding by_words up_to_words
then_singly a b h = go (length a)
  where
    go : (n : ℕ) → up_to_words n a b ≡ by_bytes a b
    go zero = refl
    go (suc n) = rw h

-- ---- what the code counts

pub counted_bytes : (a b : List ℕ) (n : ℕ) → n ≡ length (common_run a b) → n ≡ by_bytes a b
counted_bytes a b n e = e ∙ sym (bytes_count a b)

pub counted_words : (a b : List ℕ) (n : ℕ) → ((j : ℕ) → Fits w8 (get_or a j 0)) → ((j : ℕ) → Fits w8 (get_or b j 0)) → n ≡ length (common_run a b) → n ≡ by_words a b
counted_words a b n p q e = counted_bytes a b n e ∙ sym (same_count a b (bytes_of a p) (bytes_of b q))
