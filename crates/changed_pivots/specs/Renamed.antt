-- For contracts of leaves and inner functions: the pivots v but the last with the prefix p changed to q, and the causes 1, 2, 3, 7 and 8 of TranslatePivots, with the end n.
use Rattle.std.specs.Prelude.{◌≡◌, not, ◌||◌, List, [], ◌∷◌, ◌++◌, map, ℕ}
use Rattle.std.proofs.Math.Option.{none}
use Rattle.model.specs.declared.Refusal.TheVariants.{NotPrefix, TooLong}
use Rattle.model.specs.keys.Key.{Key, too_long}
use Rattle.model.specs.records.Record.{elements}
use Rattle.model.specs.tables.Tables.{PivotTable, all, short_element}
use Rattle.model.specs.translation.Renaming.{TranslateElement}
use Rattle.model.specs.calls.Refusals.{Cause, ◌⇒◌, first}
use Rattle.model.specs.calls.KeyCalls.{not_element, not_record}
use Rattle.model.specs.calls.TableCalls.{pivot_causes}
use Rattle.model.specs.calls.RenamingCalls.{but_last, begun, new_pivots}

-- the new pivots but the given end
abbrev pub changed_pivots : List ℕ → Key → Key → PivotTable
changed_pivots v p q = map (TranslateElement p q) (but_last (elements v))

-- causes 7 and 8, but for the given end
abbrev pub changeable_causes : List ℕ → Key → Key → List Cause
changeable_causes v p q =
    (not (all (begun p) (but_last (elements v))) ⇒ NotPrefix) ∷
    (not (all short_element (changed_pivots v p q)) ⇒ TooLong) ∷ []

-- causes 1 to 3
abbrev pub with_end_causes : List ℕ → Key → Key → List ℕ → List Cause
with_end_causes v p q n = pivot_causes (not_record n) (too_long p || too_long q || not_element n) v

-- none of these applies
abbrev pub Given : List ℕ → Key → Key → List ℕ → Type 0
Given v p q n = first (with_end_causes v p q n) ≡ none

-- and then 7 and 8 of all new pivots: where TranslatePivots' list begins
abbrev pub renamed_causes : List ℕ → Key → Key → List ℕ → List Cause
renamed_causes v p q n =
    with_end_causes v p q n
    ++ (not (all (begun p) (but_last (elements v))) ⇒ NotPrefix) ∷
    (not (all short_element (new_pivots v p q n)) ⇒ TooLong) ∷ []
