-- A pair as the code holds it, field by field; and what a result with one tells.
use Rattle.std.specs.Prelude.{ℕ, Result, Ok, Err}
use Rattle.std.proofs.Math.Option.{none}
use Rattle.model.specs.declared.Refusal.{Refusal}
use Rattle.model.specs.translation.PairState.{PairState, state_of}
use Rattle.model.specs.translation.PairRecord.{flag}
use Rattle.pairs.specs.declared.PrefixSet.{PrefixSet}

abbrev pub state : PrefixSet → PairState
state p = record { there = p.there; old_length = p.oldlen; new_length = p.newlen; old_bytes = p.old; new_bytes = p.new }

-- the answer of a call on pairs: 1 where the pair is there, 0 where it is absent, or the refusal
abbrev pub told_there : Result PrefixSet Refusal → Result ℕ Refusal
told_there (Ok p) = Ok (flag p.there)
told_there (Err r) = Err r

-- the pair beside that answer: beside a refusal the absent one
abbrev pub state_beside : Result PrefixSet Refusal → PairState
state_beside (Ok p) = state p
state_beside (Err r) = state_of none
