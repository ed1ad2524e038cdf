-- A pair's record for all bytes: the state that a slice holds, what a state leaves in a destination, and a result whose record is placed in one.
use Rattle.std.specs.Prelude.{cond, ◌||◌, List, ℕ, ltb, Result, Ok, Err}
use Rattle.model.specs.declared.Refusal.{Refusal}
use Rattle.std.proofs.Math.Option.{none}
use Rattle.model.specs.keys.Key.{max_len}
use Rattle.model.specs.translation.PairState.{PairState, state_of}
use Rattle.model.specs.translation.PairRecord.{pair_size, state_at, encode_state}
use Rattle.model.specs.calls.Refusals.{answer, over}
use Rattle.model.specs.calls.KeyCalls.{no_room}
use Rattle.model.specs.calls.PairRecordCalls.{not_pair_size, pair_room}

-- a record's state; of a slice that isn't one the absent pair's
unfoldable pub state_read : List ℕ → PairState
state_read b = cond (not_pair_size b) (state_of none) (state_at b)

-- what a state leaves in d: its record at the head, or d as it was where there is no room or a length passes 64
unfoldable pub state_put : PairState → List ℕ → List ℕ
state_put s d = cond (no_room pair_size d || ltb max_len s.old_length || ltb max_len s.new_length) d (over (encode_state s) d)

-- the answer of a call whose pair is placed in d: its refusal, or 10 where there is no room
unfoldable pub placed_answer : Result ℕ Refusal → List ℕ → Result ℕ Refusal
placed_answer (Ok n) d = answer (pair_room d) n
placed_answer (Err r) d = Err r

-- what is left in d: what the pair leaves, or d as it was
unfoldable pub placed_leaves : Result ℕ Refusal → PairState → List ℕ → List ℕ
placed_leaves (Ok n) s d = state_put s d
placed_leaves (Err r) s d = d
