-- Where the upper bound's walk ends.
use Rattle.std.specs.Prelude.{cond, ℕ, zero, suc, eqb, get_or}
use Rattle.model.specs.keys.Key.{Key}

-- of the first n bytes of p, those up to the last one that isn't FF
unfoldable pub up_to_other : Key → ℕ → ℕ
up_to_other p zero = 0
up_to_other p (suc i) = cond (eqb (get_or p i 0) 255) (up_to_other p i) (suc i)
