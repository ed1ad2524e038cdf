-- The left and the right side under one name: the first argument says whether the left is meant.
use Rattle.std.specs.Prelude.{Bool, true, false, ℕ}
use Rattle.model.specs.keys.Key.{Key}
use Rattle.model.specs.tables.Tables.{PivotTable, EdgeTable, BoundedKey, ValidLeftCutOffKey, CutoffForLeft, CutoffForRight}
use Rattle.model.specs.cuts.Cuts.{SplitLeft, SplitRight, SplitLeftEdges, SplitRightEdges}

-- where a cut at k is accepted: "above the first pivot and not above the last", or "not below the first and below the last"
abbrev pub inside : Bool → PivotTable → Key → Bool
inside true pt k = ValidLeftCutOffKey pt k
inside false pt k = BoundedKey pt k

-- the slot that is cut
abbrev pub cutoff : Bool → PivotTable → Key → ℕ
cutoff true pt k = CutoffForLeft pt k
cutoff false pt k = CutoffForRight pt k

abbrev pub Split : Bool → PivotTable → Key → PivotTable
Split true pt k = SplitLeft pt k
Split false pt k = SplitRight pt k

abbrev pub SplitEdges : Bool → EdgeTable → PivotTable → Key → EdgeTable
SplitEdges true et pt k = SplitLeftEdges et pt k
SplitEdges false et pt k = SplitRightEdges et pt k
