-- The parts of an input, its size and the check of its table.
use Rattle.std.specs.Prelude.{Result}
use Rattle.model.specs.declared.Refusal.{Refusal}
use mathlib.Core.Path.{◌≡◌, sym, ap, ◌∙◌}
use mathlib.Core.Bool.{Bool, false, not}
use mathlib.Core.List.{List, []}
use mathlib.Core.Logic.{⊎_elim}
use Prim.Native.Nat.{ℕ, ◌+◌, ◌*◌, ◌-◌, ◌/◌, ◌≤◌, ◌<◌, min}
use native.Mathlib.Nat.{add-sub_cancel_left}
use native.Mathlib.Omega.{arith}
use lib.Dec.{eqb}
use lib.ListN.{length, take, drop, length-drop, drop_of_length-le}
use lib.Seq.{take-nil}
use Rattle.model.specs.records.Record.{record_size, length_field}
use Rattle.model.specs.calls.Refusals.{answer}
use Rattle.model.specs.calls.TableCalls.{table_causes}
use Rattle.model.specs.list.ShelfList.{list_pivots, list_edges, not_list_size, list_causes}
use Rattle.model.proofs.Lists.{le_or_lt, rest, take_min}

-- dropping no more than there is
drop_min : (n : ℕ) (l : List ℕ) → drop (min n (length l)) l ≡ drop n l
drop_min n l =
    ⊎_elim (λ (h : n ≤ length l). let e : min n (length l) ≡ n = omega arith in rw e)
    (λ (h : length l < n).
    let e : min n (length l) ≡ length l = omega arith in
    let a : length l ≤ length l = omega arith in
    let b : length l ≤ n = omega arith in
    rw (e, drop_of_length-le l a, drop_of_length-le l b))
    (le_or_lt n (length l))

pub pivots_none : (s : List ℕ) → length s < 2 → [] ≡ list_pivots s
unfolding list_pivots
pivots_none s h = let p : length s ≤ 2 = omega arith in rw (drop_of_length-le s p, take-nil)

module _ (s : List ℕ) (c : ℕ) (e : c ≡ length_field s) where
  pub pivots_part : (m : ℕ) → m ≡ min (c * 66) (length s - 2) → take (2 + m - 2) (drop 2 s) ≡ list_pivots s
  unfolding list_pivots
  pivots_part m g =
      let h : min (c * 66) (length s - 2) ≡ min (c * 66) (length (drop 2 s)) = ap (min (c * 66)) (sym (length-drop 2 s)) in
      rw (add-sub_cancel_left 2 m, g, h, take_min, e)

  pub edges_part : (m : ℕ) → m ≡ min (2 + c * 66) (length s) → take (length s - m) (drop m s) ≡ list_edges s
  unfolding list_edges
  edges_part m g = rest s m ∙ rw (g, drop_min, e)

  pub size_none : c ≡ 0 → not (eqb (length s) 2) ≡ not_list_size s
  unfolding not_list_size
  size_none h = let n : length_field s ≡ 0 = sym e ∙ h in rw n

  pub size_some : not (eqb (length s) (2 + (c + (c - 1)) * 66)) ≡ not_list_size s
  unfolding not_list_size
  size_some = rw e

pub list_checked : (s p q : List ℕ) (t : Bool) (r : Result ℕ Refusal) → p ≡ list_pivots s → q ≡ list_edges s → t ≡ not_list_size s
    → r ≡ answer (table_causes t false p q) (length p / record_size) → r ≡ answer (list_causes s) (length (list_pivots s) / record_size)
unfolding list_causes
list_checked s p q t r e f g h = h ∙ rw (e, f, g)
