-- The lines of a table, in the parts that are written one after the other.
use Rattle.std.specs.Prelude.{List, [], ◌++◌, ℕ, zero, suc, ◌+◌, ◌*◌, ◌-◌, min}
use Rattle.model.specs.records.Record.{element, edge_of}
use Rattle.model.specs.inner.Places.{record_at}
use Rattle.model.specs.tables.Tables.{max_pivots}
use Rattle.model.specs.list.ShelfList.{tab, header, decimal, slot_line}
use Rattle.digits.specs.Field.{field}
use Rattle.list_fields.specs.Fields.{pivot_field, shared_field, edge_field, most_field}

-- the first three fields of the line of slot i, and the last two
abbrev pub line_head : ℕ → List ℕ → List ℕ → List ℕ
line_head i l r = field (decimal i) tab ++ (pivot_field l ++ pivot_field r)

abbrev pub line_rest : List ℕ → List ℕ → List ℕ → List ℕ
line_rest l r g = shared_field l r ++ edge_field g

-- how long a line is at most
abbrev pub most_line : ℕ
most_line = 3 + 4 * most_field

-- the line of slot i of pivots p and edges e
unfoldable pub line_at : List ℕ → List ℕ → ℕ → List ℕ
line_at p e i = slot_line i (element (record_at p i)) (element (record_at p (i + 1))) (edge_of (record_at e i))

-- the lines of the first n slots
unfoldable pub lines_to : List ℕ → List ℕ → ℕ → List ℕ
lines_to p e zero = []
lines_to p e (suc n) = lines_to p e n ++ line_at p e n

-- the header, and the lines of the slots of n pivots, of 64 at most
unfoldable pub text_of : List ℕ → List ℕ → ℕ → List ℕ
text_of p e n = header ++ lines_to p e (min n max_pivots - 1)
