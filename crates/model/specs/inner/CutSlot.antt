-- For the contracts of inner functions: the slot that is cut, and which of the records lent a cut leaves, by the side.
use Rattle.std.specs.Prelude.{Bool, true, false, List, ◌++◌, ℕ, ◌+◌, ◌*◌, take, drop}
use Rattle.model.specs.keys.Key.{Key}
use Rattle.model.specs.keys.Order.{Element, key}
use Rattle.model.specs.records.Record.{Edge, record_size}
use Rattle.model.specs.tables.Tables.{PivotTable, EdgeTable, pivot_at, CutoffForLeft, CutoffForRight}
use Rattle.model.specs.cuts.Cuts.{edge_within}
use Rattle.model.specs.cuts.Sides.{cutoff}

-- the range of the cut slot: up to k, or from k on
abbrev pub cut_from : Bool → PivotTable → Key → Element
cut_from true pt k = pivot_at pt (CutoffForLeft pt k)
cut_from false pt k = key k

abbrev pub cut_upto : Bool → PivotTable → Key → Element
cut_upto true pt k = key k
cut_upto false pt k = pivot_at pt (CutoffForRight pt k + 1)

-- its edge
abbrev pub cut_slot_edge : Bool → PivotTable → EdgeTable → Key → Edge
cut_slot_edge left pt et k = edge_within pt et (cutoff left pt k) (cut_from left pt k) (cut_upto left pt k)

-- ---- bytes: a cut leaves some of the records lent, and a new one

-- the first n records and then what is new, or what is new and then the records from place n on
abbrev pub cut_bytes : Bool → ℕ → List ℕ → List ℕ → List ℕ
cut_bytes true n l new = take (n * record_size) l ++ new
cut_bytes false n l new = new ++ drop (n * record_size) l

-- the place among the edges, for a cut in slot c: the left keeps those before c, the right those after it
abbrev pub edge_place : Bool → ℕ → ℕ
edge_place true c = c
edge_place false c = c + 1
