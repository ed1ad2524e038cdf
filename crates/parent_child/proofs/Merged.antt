-- The causes of a parent and a child in one list: its answer is the earlier of the two checks'.
use Rattle.std.specs.Prelude.{Result, Ok, Err}
use mathlib.Core.Path.{◌≡◌, refl, ◌∙◌}
use mathlib.Core.Bool.{true, false, not}
use mathlib.Core.List.{List, [], ◌∷◌}
use mathlib.Core.Option.{none, some}
use Prim.Native.Nat.{ℕ}
use Rattle.model.specs.declared.Refusal.{Refusal}
use Rattle.model.specs.declared.Refusal.TheVariants.{Shape, Malformed, Unsorted, EmptyPrefix}
use Rattle.model.specs.records.Record.{records, elements}
use Rattle.model.specs.tables.Tables.{IsStrictlySorted, WFPivots}
use Rattle.model.specs.calls.Refusals.{◌⇒◌, outcome, paired, first, answer}
use Rattle.model.specs.calls.TableCalls.{not_pivot_count, not_edge_count, pivots_read, edges_read, edges_stand, pivot_causes, table_causes}
use Rattle.model.specs.calls.ParentChildCalls.{three_tables_causes}
use Rattle.model.proofs.calls.TableCalls.{causes_wf}
use Rattle.refusals.specs.Earlier.{earlier}
use Rattle.model.proofs.calls.Refusals.{paired_none}
use Rattle.refusals.proofs.InStep.{rising, in_step, told_earlier, either_of}

module _ (p e c : List ℕ) where
  -- the causes of all three tables are those of the parent and of the child
  merged : {A : Type 0} (f : Refusal → A) (v : A)
      → outcome f (paired (table_causes false false p e) (pivot_causes false false c)) v ≡ outcome f (three_tables_causes p e c) v
  unfolding paired table_causes pivot_causes
  merged f v =
      let left = (not (IsStrictlySorted (elements p)) ⇒ Unsorted) ∷ (not (IsStrictlySorted (elements c)) ⇒ Unsorted) ∷ (not (edges_stand p e) ⇒ EmptyPrefix) ∷ [] in
      either_of f v (not_edge_count p e) (not_pivot_count c) (not_pivot_count p) Shape _ _
      (either_of f v (not (edges_read (records e))) (not (pivots_read (records c))) (not (pivots_read (records p))) Malformed left left refl)

  -- both lists go by the same numbers
  in_step_lem : in_step (table_causes false false p e) (pivot_causes false false c) ≡ true
  unfolding in_step rising table_causes pivot_causes
  in_step_lem = refl

  -- so the earlier refusal of the two checks is the answer
  pub checked : (x a b : Result ℕ Refusal) (m n : ℕ) → a ≡ answer (table_causes false false p e) m → b ≡ answer (pivot_causes false false c) n
      → x ≡ earlier a b → x ≡ answer (three_tables_causes p e c) m
  checked x a b m n f g h =
      told_earlier (table_causes false false p e) (pivot_causes false false c) m n x a b in_step_lem f g h ∙ merged Err (Ok m)

  module _ (h : first (three_tables_causes p e c) ≡ none) where
    -- where none of them applies, neither list has one
    apart : (first (table_causes false false p e) ≡ none) × (first (pivot_causes false false c) ≡ none)
    apart = paired_none (table_causes false false p e) (pivot_causes false false c) (merged some none ∙ h)

    -- the parent has none of the causes 1 to 4
    pub parent_passed : first (table_causes false false p e) ≡ none
    parent_passed = apart.0

    -- the child's pivots are well formed
    pub child_wf : WFPivots (elements c) ≡ true
    child_wf = causes_wf false false c apart.1
