-- A new pivot in a table, with its edges.
use Rattle.std.specs.Prelude.{◌∷◌, ◌++◌, ℕ, ◌+◌, take, drop}
use Rattle.model.specs.keys.Key.{Key}
use Rattle.model.specs.keys.Order.{key}
use Rattle.model.specs.tables.Tables.{PivotTable, EdgeTable, pivot_at, Route}
use Rattle.model.specs.cuts.Cuts.{edge_within}

-- InsertPivot: the key at place idx, and the pivots from there on behind it
unfoldable pub InsertPivot : PivotTable → ℕ → Key → PivotTable
InsertPivot pt idx k = take idx pt ++ (key k ∷ drop idx pt)

-- "Both new edges extend the old one as a cut does": the key's slot is cut to its part before the key and to its part from the key on
unfoldable pub InsertPivotEdges : EdgeTable → PivotTable → Key → EdgeTable
InsertPivotEdges et pt k =
    let c = Route pt k in
    let left = edge_within pt et c (pivot_at pt c) (key k) in
    let right = edge_within pt et c (key k) (pivot_at pt (c + 1)) in
    take c et ++ (left ∷ right ∷ drop (c + 1) et)
