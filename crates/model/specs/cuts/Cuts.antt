-- The cuts of a table with its edges, and the plain cut of document 01.
use Rattle.std.specs.Prelude.{cond, ◌&&◌, [], ◌∷◌, ◌++◌, ℕ, ◌+◌, take, drop}
use Rattle.model.specs.keys.Key.{Key, change_prefix}
use Rattle.model.specs.keys.Order.{Element, key, lt, LargestLte}
use Rattle.model.specs.records.Record.{Edge, edge, no_edge}
use Rattle.model.specs.ranges.RangePrefix.{PivotLcp}
use Rattle.model.specs.tables.Tables.{PivotTable, EdgeTable, pivot_at, edge_at, CutoffForLeft, CutoffForRight}

-- SplitLeft: "It keeps the pivots below k and ends with k"
unfoldable pub SplitLeft : PivotTable → Key → PivotTable
SplitLeft pt k = take (CutoffForLeft pt k + 1) pt ++ (key k ∷ [])

-- SplitRight: "It starts with k and keeps the pivots above k"
unfoldable pub SplitRight : PivotTable → Key → PivotTable
SplitRight pt k = key k ∷ drop (CutoffForRight pt k + 1) pt

-- "A cut edge becomes the old edge followed by what the new range's prefix has beyond the old one's"
unfoldable pub cut_edge : Key → Key → Edge → Edge
cut_edge old new (edge q) = edge (change_prefix old q new)
cut_edge old new no_edge = no_edge

-- the edge of slot i of the table, cut to the range from a to b, which lies in that slot
unfoldable pub edge_within : PivotTable → EdgeTable → ℕ → Element → Element → Edge
edge_within pt et i a b = cut_edge (PivotLcp (pivot_at pt i) (pivot_at pt (i + 1))) (PivotLcp a b) (edge_at et i)

-- SplitLeftEdges: the edges before the cut slot, then that slot's cut edge
unfoldable pub SplitLeftEdges : EdgeTable → PivotTable → Key → EdgeTable
SplitLeftEdges et pt k =
    let c = CutoffForLeft pt k in
    take c et ++ (edge_within pt et c (pivot_at pt c) (key k) ∷ [])

-- SplitRightEdges: the cut slot's cut edge, then the edges after it
unfoldable pub SplitRightEdges : EdgeTable → PivotTable → Key → EdgeTable
SplitRightEdges et pt k =
    let c = CutoffForRight pt k in
    edge_within pt et c (key k) (pivot_at pt (c + 1)) ∷ drop (c + 1) et

-- ---- "The plain cut at l and r"

-- the pivots strictly between l and r
unfoldable pub strictly_between : Element → Element → PivotTable → PivotTable
strictly_between l r [] = []
strictly_between l r (p ∷ pt) = cond (lt l p && lt p r) (p ∷ strictly_between l r pt) (strictly_between l r pt)

-- "l, the old ones strictly between l and r, and r"
unfoldable pub plain_cut : PivotTable → Key → Key → PivotTable
plain_cut pt l r = key l ∷ strictly_between (key l) (key r) pt ++ (key r ∷ [])

-- "Each of its slots lies in one old slot; its edge, of any length here, is the old slot's edge followed by what its own range's prefix has beyond the old range's, and where the old slot has no edge it has none"
unfoldable pub plain_edges_from : PivotTable → EdgeTable → Element → PivotTable → EdgeTable
plain_edges_from pt et a [] = []
plain_edges_from pt et a (b ∷ rest) = edge_within pt et (LargestLte pt a) a b ∷ plain_edges_from pt et b rest

unfoldable pub plain_cut_edges : PivotTable → EdgeTable → Key → Key → EdgeTable
plain_cut_edges pt et l r = plain_edges_from pt et (key l) (strictly_between (key l) (key r) pt ++ (key r ∷ []))
