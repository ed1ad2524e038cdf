-- Bytes as one number.
use Rattle.std.specs.Prelude.{List, ℕ, zero, suc, ◌+◌, ◌*◌, ◌/◌, min, length, drop, get_or}

-- the first n bytes of a list as one number, the first the lowest
unfoldable pub word_of : ℕ → List ℕ → ℕ
word_of zero l = 0
word_of (suc n) l = get_or l 0 0 + 256 * word_of n (drop 1 l)

-- the number v with the first n bytes of a list written after it: of v = 0 these bytes, the first the highest
unfoldable pub big_of : ℕ → ℕ → List ℕ → ℕ
big_of zero v l = v
big_of (suc n) v l = big_of n (v * 256 + get_or l 0 0) (drop 1 l)

-- the bytes in as many whole words of eight as both lists have
unfoldable pub whole : List ℕ → List ℕ → ℕ
whole a b = min (length a) (length b) / 8 * 8
