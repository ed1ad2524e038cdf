-- Pairs as records at the boundary: for each call its causes in order, its answer, and what it leaves in its destination.
use Rattle.std.specs.Prelude.{Bool, not, ◌||◌, List, [], ◌∷◌, ◌++◌, ℕ, eqb, length, Result}
use Rattle.model.specs.declared.Refusal.{Refusal}
use Rattle.std.proofs.Math.Option.{Option}
use Rattle.model.specs.declared.Refusal.TheVariants.{Shape, Malformed, NoRoom}
use Rattle.model.specs.keys.Key.{Key, too_long}
use Rattle.model.specs.records.Record.{elements, edges}
use Rattle.model.specs.translation.PrefixSet.{PrefixSet, RevPrefixSet, ApplyPrefixSet, ComposePrefixSet}
use Rattle.model.specs.translation.PairRecord.{pair_size, wrong_pair, pair_at, encode_pair}
use Rattle.model.specs.translation.Translation.{Translate}
use Rattle.model.specs.calls.Refusals.{Cause, ◌⇒◌, answer, leaves}
use Rattle.model.specs.calls.KeyCalls.{no_room}
use Rattle.model.specs.calls.PairCalls.{pair_answer, change_causes, composition}
use Rattle.model.specs.calls.TranslationCalls.{translate_causes}

-- "A pair that isn't 133 bytes is 1"
abbrev pub not_pair_size : List ℕ → Bool
not_pair_size b = not (eqb (length b) pair_size)

-- "A destination for a pair shorter than 133 bytes is 10, last"
abbrev pub pair_room : List ℕ → List Cause
pair_room d = (no_room pair_size d ⇒ NoRoom) ∷ []

abbrev pub pair_leaves : List Cause → Option PrefixSet → List ℕ → List ℕ
pair_leaves causes o d = leaves causes (encode_pair o) d

-- reverse_pair(b), into d
abbrev pub reverse_pair_causes : List ℕ → List ℕ → List Cause
reverse_pair_causes b d = (not_pair_size b ⇒ Shape) ∷ (wrong_pair b ⇒ Malformed) ∷ pair_room d

abbrev pub reverse_pair_answer : List ℕ → List ℕ → Result ℕ Refusal
reverse_pair_answer b d = pair_answer (reverse_pair_causes b d) (RevPrefixSet (pair_at b))

abbrev pub reverse_pair_leaves : List ℕ → List ℕ → List ℕ
reverse_pair_leaves b d = pair_leaves (reverse_pair_causes b d) (RevPrefixSet (pair_at b)) d

-- apply_pair(b, k), into d
abbrev pub apply_pair_causes : List ℕ → Key → List ℕ → List Cause
apply_pair_causes b k d = (not_pair_size b ⇒ Shape) ∷ (wrong_pair b || too_long k ⇒ Malformed) ∷ change_causes (pair_at b) k d

abbrev pub apply_pair_answer : List ℕ → Key → List ℕ → Result ℕ Refusal
apply_pair_answer b k d = answer (apply_pair_causes b k d) (length (ApplyPrefixSet (pair_at b) k))

abbrev pub apply_pair_leaves : List ℕ → Key → List ℕ → List ℕ
apply_pair_leaves b k d = leaves (apply_pair_causes b k d) (ApplyPrefixSet (pair_at b) k) d

-- compose_pairs(a, b), into d
abbrev pub compose_pairs_causes : List ℕ → List ℕ → List ℕ → List Cause
compose_pairs_causes a b d =
    (not_pair_size a || not_pair_size b ⇒ Shape) ∷
    (wrong_pair a || wrong_pair b ⇒ Malformed) ∷ composition (pair_at a) (pair_at b) ++ pair_room d

abbrev pub compose_pairs_answer : List ℕ → List ℕ → List ℕ → Result ℕ Refusal
compose_pairs_answer a b d = pair_answer (compose_pairs_causes a b d) (ComposePrefixSet (pair_at a) (pair_at b))

abbrev pub compose_pairs_leaves : List ℕ → List ℕ → List ℕ → List ℕ
compose_pairs_leaves a b d = pair_leaves (compose_pairs_causes a b d) (ComposePrefixSet (pair_at a) (pair_at b)) d

-- translate_pair(p, e, k), into d: Translate
abbrev pub translate_pair_causes : List ℕ → List ℕ → Key → List ℕ → List Cause
translate_pair_causes p e k d = translate_causes p e k ++ pair_room d

abbrev pub translate_pair_answer : List ℕ → List ℕ → Key → List ℕ → Result ℕ Refusal
translate_pair_answer p e k d = pair_answer (translate_pair_causes p e k d) (Translate (elements p) (edges e) k)

abbrev pub translate_pair_leaves : List ℕ → List ℕ → Key → List ℕ → List ℕ
translate_pair_leaves p e k d = pair_leaves (translate_pair_causes p e k d) (Translate (elements p) (edges e) k) d
