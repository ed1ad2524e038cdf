-- The bytes that two lists have in common at their beginning, counted in two ways. The law between them is `same_count`.
use Rattle.std.specs.Prelude.{cond, ◌&&◌, List, [], ◌∷◌, ℕ, zero, suc, ◌+◌, min, eqb, leb, length, drop}
use Rattle.scan.specs.Word.{word_of}

-- "the count by single bytes"
unfoldable pub by_bytes : List ℕ → List ℕ → ℕ
by_bytes [] b = 0
by_bytes (x ∷ a) [] = 0
by_bytes (x ∷ a) (y ∷ b) = cond (eqb x y) (suc (by_bytes a b)) 0

-- at most n words, as long as both lists have one more and these agree; then "the last few bytes singly"
unfoldable pub up_to_words : ℕ → List ℕ → List ℕ → ℕ
up_to_words zero a b = by_bytes a b
up_to_words (suc n) a b = cond (leb 8 (min (length a) (length b)) && eqb (word_of 8 a) (word_of 8 b)) (8 + up_to_words n (drop 8 a) (drop 8 b)) (by_bytes a b)

-- "the common leading bytes of two keys a word of eight bytes at a time"
unfoldable pub by_words : List ℕ → List ℕ → ℕ
by_words a b = up_to_words (length a) a b
