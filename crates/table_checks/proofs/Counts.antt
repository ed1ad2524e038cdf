-- How many edges are lent.
use mathlib.Core.Path.{◌≡◌, refl}
use mathlib.Core.Bool.{Bool, true, false, not}
use mathlib.Core.List.{List}
use Prim.Native.Nat.{ℕ, ◌+◌, ◌-◌, ◌≤◌, ◌<◌}
use native.Mathlib.Omega.{arith}
use borrow.Author.Tests.{eq-eqb, ne_eqb, eqb-true, eqb-false}
use lib.Dec.{eqb}
use lib.ListN.{length}
use Rattle.model.specs.calls.TableCalls.{not_edge_count}

module _ (p e : List ℕ) where
  pub no_pivot : length p < 66 → true ≡ not_edge_count p e
  unfolding not_edge_count
  no_pivot h = rw (ne_eqb (length e + 66) (length p) (λ q. omega arith))

  pub one_fewer : 66 ≤ length p → not (eqb (length p - 66) (length e)) ≡ not_edge_count p e
  unfolding not_edge_count
  one_fewer h = go (eqb (length p - 66) (length e)) refl
    where
      go : (t : Bool) → eqb (length p - 66) (length e) ≡ t → not t ≡ not (eqb (length e + 66) (length p))
      go true q = rw (eq-eqb (length e + 66) (length p) (omega (arith, eqb-true (length p - 66) (length e) q)))
      go false q = rw (ne_eqb (length e + 66) (length p) (λ w. eqb-false (length p - 66) (length e) q (omega arith)))
