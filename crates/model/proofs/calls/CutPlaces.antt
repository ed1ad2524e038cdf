-- The places of the cut slot's records among the bytes of pivots and edges.
use mathlib.Core.Path.{◌≡◌}
use mathlib.Core.Bool.{Bool}
use mathlib.Core.List.{List}
use mathlib.Core.Option.{none}
use Prim.Native.Nat.{ℕ, ◌+◌, ◌*◌, ◌≤◌}
use native.Mathlib.Omega.{arith}
use mir.Syntax.{w16, w64}
use mir.Val.{Fits}
use lib.ListN.{length}
use Rattle.model.specs.records.Record.{record_size, elements}
use Rattle.model.specs.cuts.Sides.{inside, cutoff}
use Rattle.model.specs.calls.Refusals.{first}
use Rattle.model.specs.calls.TableCalls.{edge_slot_causes}
use Rattle.model.proofs.calls.CutCalls.{cut_slot_small, cut_key, cut_slot, cut_slot_edge_lem}

-- the place after a record is that of the next one
pub next_place : (n : ℕ) → (n + 1) * record_size ≡ n * 66 + 66
next_place n = omega arith

-- the slot's place and the next, within pivots and edges
module _ (left : Bool) (p e k : List ℕ) (c : ℕ) (h : first (edge_slot_causes p e k (inside left (elements p) k)) ≡ none)
    (f : c ≡ cutoff left (elements p) k) where
  pub key_fits : Fits w16 (length k)
  key_fits = record { fits = omega (arith, cut_key left p e k h) }

  pub at_fits : Fits w64 (c * 66)
  at_fits = record { fits = omega (arith, f, cut_slot_small left p e k h) }

  pub next_fits : Fits w64 (c * 66 + 66)
  next_fits = record { fits = omega (arith, f, cut_slot_small left p e k h) }

  pub pivots_at : c * 66 ≤ length p
  pivots_at = omega (arith, f, cut_slot left p e k h)

  pub pivots_next : c * 66 + 66 ≤ length p
  pivots_next = omega (arith, f, cut_slot left p e k h)

  pub edges_at : c * 66 ≤ length e
  edges_at = omega (arith, f, cut_slot_edge_lem left p e k h)

  pub edges_next : c * 66 + 66 ≤ length e
  edges_next = omega (arith, f, cut_slot_edge_lem left p e k h)
