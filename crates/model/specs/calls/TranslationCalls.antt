-- The translation of a key in a table: for each call its causes in order, its answer, and what it leaves in its destination.
use Rattle.std.specs.Prelude.{List, ◌++◌, ℕ, length, Result}
use Rattle.model.specs.declared.Refusal.{Refusal}
use Rattle.model.specs.keys.Key.{Key}
use Rattle.model.specs.records.Record.{elements, edges}
use Rattle.model.specs.tables.Tables.{BoundedKey}
use Rattle.model.specs.translation.PairState.{PairState}
use Rattle.model.specs.translation.Translation.{Translate, TranslateKey}
use Rattle.model.specs.calls.Refusals.{Cause, answer, leaves}
use Rattle.model.specs.calls.KeyCalls.{size_causes}
use Rattle.model.specs.calls.TableCalls.{edge_slot_causes}
use Rattle.model.specs.calls.PairCalls.{pair_answer, pair_beside}

-- Translate: the pair of the key's slot
abbrev pub translate_causes : List ℕ → List ℕ → Key → List Cause
translate_causes p e k = edge_slot_causes p e k (BoundedKey (elements p) k)

abbrev pub translate_answer : List ℕ → List ℕ → Key → Result ℕ Refusal
translate_answer p e k = pair_answer (translate_causes p e k) (Translate (elements p) (edges e) k)

abbrev pub translate_pair : List ℕ → List ℕ → Key → PairState
translate_pair p e k = pair_beside (translate_causes p e k) (Translate (elements p) (edges e) k)

-- TranslateKey, into d
abbrev pub translate_key_causes : List ℕ → List ℕ → Key → List ℕ → List Cause
translate_key_causes p e k d =
    translate_causes p e k ++ size_causes (TranslateKey (elements p) (edges e) k) d

abbrev pub translate_key_answer : List ℕ → List ℕ → Key → List ℕ → Result ℕ Refusal
translate_key_answer p e k d = answer (translate_key_causes p e k d) (length (TranslateKey (elements p) (edges e) k))

abbrev pub translate_key_leaves : List ℕ → List ℕ → Key → List ℕ → List ℕ
translate_key_leaves p e k d = leaves (translate_key_causes p e k d) (TranslateKey (elements p) (edges e) k) d
