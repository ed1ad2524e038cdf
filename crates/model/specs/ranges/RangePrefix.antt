-- The prefix of a range of keys: lcpright, lcp and PivotLcp of TranslationLib.
use Rattle.std.specs.Prelude.{Bool, cond, ◌&&◌, [], ◌∷◌, ◌+◌, eqb}
use Rattle.model.specs.keys.Key.{Key, is_nil}
use Rattle.model.specs.keys.Order.{Element, key, max, lte, lt}

-- "the left key's leading run of FF"
unfoldable pub lcpright : Key → Key
lcpright [] = []
lcpright (a ∷ l) = cond (eqb a 255) (a ∷ lcpright l) []

-- "take the common run. If left goes on and right has exactly one byte more, and it is left's next byte plus 1, add left's byte and the run of FF that follows it"
unfoldable pub lcp : Key → Key → Key
lcp [] r = []
lcp (a ∷ l) [] = []
lcp (a ∷ l) (b ∷ r) = cond (eqb a b) (a ∷ lcp l r) (cond (is_nil r && eqb (a + 1) b) (a ∷ lcpright l) [])

-- PivotLcp; a left bound is a key
unfoldable pub PivotLcp : Element → Element → Key
PivotLcp (key l) (key r) = lcp l r
PivotLcp (key l) max = lcpright l
PivotLcp max r = []

-- InBetween: "all keys from left up to, but without, right"
abbrev pub InBetween : Element → Element → Key → Bool
InBetween l r k = lte l (key k) && lt (key k) r
