-- Two tables with edges put together, where one ends and the other begins.
use Rattle.std.specs.Prelude.{Bool, not, ◌||◌, ◌++◌, drop}
use Rattle.model.specs.keys.Order.{is_key, same}
use Rattle.model.specs.tables.Tables.{PivotTable, EdgeTable, pivot_at, last_pivot}

-- of the last pivot of the first and the first of the second: "the meeting pivots differ or are max"
unfoldable pub not_meeting : PivotTable → PivotTable → Bool
not_meeting first second = not (same (last_pivot first) (pivot_at second 0)) || not (is_key (pivot_at second 0))

-- "The joined table has that pivot once": the pivots of the first, and those of the second behind it
unfoldable pub JoinPivots : PivotTable → PivotTable → PivotTable
JoinPivots first second = first ++ drop 1 second

-- "and all edges in turn"
unfoldable pub JoinEdges : EdgeTable → EdgeTable → EdgeTable
JoinEdges first second = first ++ second
