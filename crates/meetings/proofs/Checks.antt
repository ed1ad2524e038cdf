-- The ways out of the check of two tables: causes 1 to 4 of both, then 13 and 12.
use Rattle.std.specs.Prelude.{Result, Ok, Err}
use mathlib.Core.Path.{◌≡◌, refl, ap, ◌∙◌}
use mathlib.Core.Bool.{Bool, true, false}
use mathlib.Core.List.{List, [], ◌∷◌}
use mathlib.Core.Option.{none}
use Prim.Native.Nat.{ℕ}
use Rattle.model.specs.declared.Refusal.{Refusal}
use Rattle.model.specs.declared.Refusal.TheVariants.{NotMeeting, TooManyPivots}
use Rattle.model.specs.records.Record.{elements}
use Rattle.model.specs.tables.Tables.{WFPivots}
use Rattle.model.specs.cuts.Join.{not_meeting}
use Rattle.model.specs.calls.Refusals.{◌⇒◌, outcome, first, answer}
use Rattle.model.specs.calls.TableCalls.{pivot_causes, table_causes}
use Rattle.model.specs.calls.InsertionCalls.{too_many_pivots}
use Rattle.model.specs.calls.JoinCalls.{two_tables_causes, joined_pivots, meeting_causes}
use Rattle.model.proofs.calls.Refusals.{accepted, value_is, handed_on-first, after}
use Rattle.model.proofs.calls.TableCalls.{table_wf}
use Rattle.model.proofs.calls.JoinCalls.{first_table, second_table}
use Rattle.refusals.specs.Earlier.{earlier}
use Rattle.refusals.proofs.InStep.{rising, in_step, told_earlier}

module _ (p e q f : List ℕ) where
  -- the causes of both tables go by the same numbers
  in_step_lem : in_step (table_causes false false p e) (table_causes false false q f) ≡ true
  unfolding in_step rising table_causes pivot_causes
  in_step_lem = refl

  -- so the earlier refusal of the two checks is that of both
  pub both_checked : (x a b : Result ℕ Refusal) (m n : ℕ) → a ≡ answer (table_causes false false p e) m → b ≡ answer (table_causes false false q f) n
      → x ≡ earlier a b → x ≡ answer (two_tables_causes p e q f) m
  both_checked x a b m n g h i = told_earlier (table_causes false false p e) (table_causes false false q f) m n x a b in_step_lem g h i

  -- a refusal of theirs is handed on
  pub checks_refuse : (a : Result ℕ Refusal) (m v : ℕ) (r : Refusal) (z : Result ℕ Refusal) → a ≡ answer (two_tables_causes p e q f) m → a ≡ Err r → z ≡ Err r → z ≡ answer (meeting_causes p e q f) v
  checks_refuse a m v r z b c o = handed_on-first (two_tables_causes p e q f) m a b Err (Ok v) z _ r c o

-- a check that is passed says that neither table has a cause
module _ (p e q f : List ℕ) (a : Result ℕ Refusal) (m n : ℕ) (b : a ≡ answer (two_tables_causes p e q f) m) (c : a ≡ Ok n) where
  none_checked : first (two_tables_causes p e q f) ≡ none
  none_checked = accepted (two_tables_causes p e q f) m a b n c

  pub first_checked : WFPivots (elements p) ≡ true
  first_checked = table_wf false false p e (first_table p e q f none_checked)

  pub second_checked : WFPivots (elements q) ≡ true
  second_checked = table_wf false false q f (second_table p e q f none_checked)

  -- then 13 and 12 decide
  module _ (s t : Bool) (g : s ≡ not_meeting (elements p) (elements q)) (h : t ≡ too_many_pivots (joined_pivots p q)) where
    then_decide : (x : Result ℕ Refusal) (v : ℕ) → x ≡ outcome Err ((s ⇒ NotMeeting) ∷ (t ⇒ TooManyPivots) ∷ []) (Ok v) → x ≡ answer (meeting_causes p e q f) v
    then_decide x v d = after Err (Ok v) x (two_tables_causes p e q f) _ none_checked (rw (← g, ← h) d)

    pub apart_first : s ≡ true → (v : ℕ) → Err NotMeeting ≡ answer (meeting_causes p e q f) v
    apart_first i v = then_decide (Err NotMeeting) v (unfold outcome in rw i)

    pub many_first : s ≡ false → t ≡ true → (v : ℕ) → Err TooManyPivots ≡ answer (meeting_causes p e q f) v
    many_first i j v = then_decide (Err TooManyPivots) v (unfold outcome in rw (i, j))

    pub they_meet : s ≡ false → t ≡ false → a ≡ answer (meeting_causes p e q f) m
    they_meet i j = then_decide a m (unfold outcome in (rw (i, j) (c ∙ ap Ok (value_is (two_tables_causes p e q f) m a b n c))))
