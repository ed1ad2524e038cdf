-- Of two calls' answers the earlier refusal.
use Rattle.std.specs.Prelude.{cond, ℕ, ltb, Result, Ok, Err}
use Rattle.model.specs.declared.Refusal.{Refusal}
use Rattle.model.specs.calls.Refusals.{number}

-- where causes go by their numbers the smaller number comes first: of two answers the refusal with that number; else the first one's value
unfoldable pub earlier : Result ℕ Refusal → Result ℕ Refusal → Result ℕ Refusal
earlier (Ok m) (Ok n) = Ok m
earlier (Ok m) (Err s) = Err s
earlier (Err r) (Ok n) = Err r
earlier (Err r) (Err s) = cond (ltb (number s) (number r)) (Err s) (Err r)
