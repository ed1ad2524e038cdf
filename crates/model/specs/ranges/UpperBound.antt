-- The upper bound of a prefix: ShortestUncommonPrefix of TranslationLib.
use Rattle.std.specs.Prelude.{cond, [], ◌∷◌, ◌++◌, ℕ, zero, suc, ◌+◌, eqb, length, take, get_or}
use Rattle.model.specs.keys.Key.{Key}
use Rattle.model.specs.keys.Order.{Element, key, max}

-- p up to the place i, the byte there raised by 1
unfoldable pub raised_at : Key → ℕ → Element
raised_at p i = key (take i p ++ ((get_or p i 0 + 1) ∷ []))

-- ShortestUncommonPrefix(prefix, idx), with the bytes from i on passed: the byte before them is raised unless it is FF
unfoldable pub uncommon_from : Key → ℕ → Element
uncommon_from p zero = max
uncommon_from p (suc i) = cond (eqb (get_or p i 0) 255) (uncommon_from p i) (raised_at p i)

-- "The last byte that isn't FF is raised by 1 and the rest dropped; ε and an all-FF prefix give max"
unfoldable pub ShortestUncommonPrefix : Key → Element
ShortestUncommonPrefix p = uncommon_from p (length p)
