-- The methods of a pair by value: for each its causes in order, its answer and the pair beside it, or what it leaves in its destination.
use Rattle.std.specs.Prelude.{not, ◌||◌, List, [], ◌∷◌, ℕ, length, Result}
use Rattle.std.proofs.Math.Option.{Option, none, some}
use Rattle.model.specs.declared.Refusal.{Refusal}
use Rattle.model.specs.declared.Refusal.TheVariants.{Malformed, NotPrefix, TooLong}
use Rattle.model.specs.keys.Key.{Key, too_long}
use Rattle.model.specs.translation.PrefixSet.{PrefixSet, RevPrefixSet, Begins, ApplyPrefixSet, Composable, ComposePrefixSet, long_pair}
use Rattle.model.specs.translation.PairState.{PairState, not_pair, pair_of, state_of}
use Rattle.model.specs.calls.Refusals.{Cause, ◌⇒◌, outcome, answer, leaves}
use Rattle.model.specs.calls.KeyCalls.{size_causes}

-- a call whose result is a pair answers 1 where the pair is there, 0 where it is absent
unfoldable pub there_number : Option PrefixSet → ℕ
there_number none = 0
there_number (some a) = 1

abbrev pub pair_answer : List Cause → Option PrefixSet → Result ℕ Refusal
pair_answer causes o = answer causes (there_number o)

-- "beside a refusal the pair is absent"
abbrev pub pair_beside : List Cause → Option PrefixSet → PairState
pair_beside causes o = outcome (λ (r : Refusal). state_of none) causes (state_of o)

-- reverse: RevPrefixSet
abbrev pub reverse_causes : PairState → List Cause
reverse_causes s = (not_pair s ⇒ Malformed) ∷ []

abbrev pub reverse_answer : PairState → Result ℕ Refusal
reverse_answer s = pair_answer (reverse_causes s) (RevPrefixSet (pair_of s))

abbrev pub reverse_pair : PairState → PairState
reverse_pair s = pair_beside (reverse_causes s) (RevPrefixSet (pair_of s))

-- causes 7, 8 and 10 of applying a pair to k, into d
abbrev pub change_causes : Option PrefixSet → Key → List ℕ → List Cause
change_causes o k d = (not (Begins o k) ⇒ NotPrefix) ∷ size_causes (ApplyPrefixSet o k) d

-- apply: ApplyPrefixSet
abbrev pub apply_causes : PairState → Key → List ℕ → List Cause
apply_causes s k d = (not_pair s || too_long k ⇒ Malformed) ∷ change_causes (pair_of s) k d

abbrev pub apply_answer : PairState → Key → List ℕ → Result ℕ Refusal
apply_answer s k d = answer (apply_causes s k d) (length (ApplyPrefixSet (pair_of s) k))

abbrev pub apply_leaves : PairState → Key → List ℕ → List ℕ
apply_leaves s k d = leaves (apply_causes s k d) (ApplyPrefixSet (pair_of s) k) d

-- causes 7 and 8 of composing two pairs
abbrev pub composition : Option PrefixSet → Option PrefixSet → List Cause
composition a b = (not (Composable a b) ⇒ NotPrefix) ∷ (long_pair (ComposePrefixSet a b) ⇒ TooLong) ∷ []

-- compose: ComposePrefixSet
abbrev pub compose_causes : PairState → PairState → List Cause
compose_causes s t = (not_pair s || not_pair t ⇒ Malformed) ∷ composition (pair_of s) (pair_of t)

abbrev pub compose_answer : PairState → PairState → Result ℕ Refusal
compose_answer s t = pair_answer (compose_causes s t) (ComposePrefixSet (pair_of s) (pair_of t))

abbrev pub compose_pair : PairState → PairState → PairState
compose_pair s t = pair_beside (compose_causes s t) (ComposePrefixSet (pair_of s) (pair_of t))
