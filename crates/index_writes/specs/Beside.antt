-- For the contracts of inner functions: a place on one side of a cut.
use Rattle.std.specs.Prelude.{Bool, true, false, ℕ, ◌-◌, min}

-- the place m of the whole bucket, among the first n entries on the left or among the others on the right
abbrev pub place_beside : Bool → ℕ → ℕ → ℕ
place_beside true n m = min m n
place_beside false n m = m - n
