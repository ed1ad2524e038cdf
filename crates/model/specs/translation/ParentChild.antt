-- The question of parent and child: ParentKeysInChildRange of TranslationLib.
use Rattle.std.specs.Prelude.{Bool, ℕ, ◌+◌}
use Rattle.model.specs.keys.Order.{Element}
use Rattle.model.specs.records.Record.{Edge, edge, no_edge}
use Rattle.model.specs.ranges.RangePrefix.{PivotLcp}
use Rattle.model.specs.tables.Tables.{PivotTable, EdgeTable, pivot_at, edge_at, ContainsRange}
use Rattle.model.specs.translation.Renaming.{Bounds, TranslatePivotPairInternal}

-- the bounds of a range under its edge; without an edge they stay
unfoldable pub bounds_under : Element → Element → Edge → Bounds
bounds_under left right (edge q) = TranslatePivotPairInternal left right (PivotLcp left right) q
bounds_under left right no_edge = record { left = left; right = right }

-- TranslatePivotPair of the source: the bounds of a slot under its edge
unfoldable pub slot_bounds : PivotTable → EdgeTable → ℕ → Bounds
slot_bounds pt et slot = bounds_under (pivot_at pt slot) (pivot_at pt (slot + 1)) (edge_at et slot)

-- ParentKeysInChildRange
unfoldable pub ParentKeysInChildRange : PivotTable → EdgeTable → PivotTable → ℕ → Bool
ParentKeysInChildRange parent edges child slot =
    let b = slot_bounds parent edges slot in
    ContainsRange child b.left b.right
