-- Causes 1 to 3 of the pivots with those of the edges, and then cause 4.
use Rattle.std.specs.Prelude.{Result, Ok, Err}
use mathlib.Core.Path.{◌≡◌, refl, sym, ap, ◌∙◌}
use mathlib.Core.Bool.{Bool, true, false, not, ◌||◌, or-true}
use mathlib.Core.List.{List, []}
use Prim.Native.Nat.{ℕ}
use Rattle.model.specs.declared.Refusal.{Refusal}
use Rattle.model.specs.declared.Refusal.TheVariants.{Shape, EmptyPrefix}
use Rattle.model.specs.records.Record.{records}
use Rattle.model.specs.calls.Refusals.{answer}
use Rattle.model.specs.calls.TableCalls.{not_pivot_count, not_edge_count, edges_read, edges_stand, pivot_causes, table_causes}
use Rattle.model.proofs.calls.Refusals.{here, later, done, handed_on-first, call_passed_first, value_is}

module _ (p e : List ℕ) (shape wrong : Bool) (n : ℕ) where
  -- another argument has cause 1
  pub shape_refused : shape ≡ true → Err Shape ≡ answer (table_causes shape wrong p e) n
  unfolding table_causes pivot_causes
  shape_refused h = here Err (Ok n) (Err Shape) (shape || not_edge_count p e || not_pivot_count p) Shape _ (rw h) refl

  -- a count is wrong
  pub edges_counted : (s : Bool) → s ≡ not_edge_count p e → s ≡ true → Err Shape ≡ answer (table_causes shape wrong p e) n
  unfolding table_causes pivot_causes
  edges_counted s f h = here Err (Ok n) (Err Shape) (shape || not_edge_count p e || not_pivot_count p) Shape _ (rw (← f, h, or-true shape)) refl

  pub pivots_counted : (t : Bool) → t ≡ not_pivot_count p → t ≡ true → Err Shape ≡ answer (table_causes shape wrong p e) n
  unfolding table_causes pivot_causes
  pivots_counted t f h = here Err (Ok n) (Err Shape) (shape || not_edge_count p e || not_pivot_count p) Shape _ (rw (← f, h, or-true (shape || not_edge_count p e))) refl

module _ (p e : List ℕ) (shape wrong bad s : Bool) (n : ℕ) (x : Result ℕ Refusal) (f : x ≡ answer (pivot_causes false bad p) n)
    (o : shape ≡ false) (so : s ≡ not_edge_count p e) (sf : s ≡ false) (b : bad ≡ (wrong || not (edges_read (records e)))) where
  found : x ≡ answer (pivot_causes (shape || not_edge_count p e) (wrong || not (edges_read (records e))) p) n
  found = rw (o, ← so, sf, ← b) f

  pub pivots_refused : (r : Refusal) (z : Result ℕ Refusal) → x ≡ Err r → z ≡ Err r → z ≡ answer (table_causes shape wrong p e) n
  unfolding table_causes
  pivots_refused r z h q = handed_on-first _ n x found Err (Ok n) z _ r h q

  module _ (m : ℕ) (u : Bool) (h : x ≡ Ok m) (g : u ≡ edges_stand p e) where
    pub edges_refused : not u ≡ true → Err EmptyPrefix ≡ answer (table_causes shape wrong p e) n
    unfolding table_causes
    edges_refused k =
        call_passed_first _ n x found Err (Ok n) (Err EmptyPrefix) _ m h
        (here Err (Ok n) (Err EmptyPrefix) (not (edges_stand p e)) EmptyPrefix [] (sym (ap not g) ∙ k) refl)

    pub table_stands : not u ≡ false → Ok m ≡ answer (table_causes shape wrong p e) n
    unfolding table_causes
    table_stands k =
        call_passed_first _ n x found Err (Ok n) (Ok m) _ m h
        (later Err (Ok n) (Ok m) (not (edges_stand p e)) EmptyPrefix [] (sym (ap not g) ∙ k)
        (done Err (Ok n) (Ok m) (ap Ok (value_is _ n x found m h))))
