-- Rows of the list: a table with twelve slots, ε, max, letters and an empty edge, and an input for each refusal.
use mathlib.Core.Path.{◌≡◌, refl}
use mathlib.Core.List.{List, [], ◌∷◌, ◌++◌}
use Prim.Native.Nat.{ℕ}
use Rattle.model.specs.declared.Refusal.TheVariants.{NoRoom, WrongIndex}
use Rattle.model.specs.keys.Order.{key, max, lte_key, lte}
use Rattle.model.specs.ranges.RangePrefix.{lcpright, lcp, PivotLcp}
use Rattle.model.specs.records.Record.{edge, no_edge, length_field, all_zero, field_reading, reading, key_bytes, element, edge_of, record_of, encode, encode_edge}
use Rattle.model.specs.records.Record.{pieces, joined, records, elements, edges, encode_all, encode_edges}
use Rattle.model.specs.tables.Tables.{PivotTable, EdgeTable, all, rises_from, IsStrictlySorted, edges_fit, WFEdges}
use Rattle.model.specs.calls.Refusals.{outcome}
use Rattle.model.specs.calls.TableCalls.{not_pivot_count, not_edge_count, pivots_read, edges_read, pivot_causes, table_causes}
use Rattle.model.specs.list.ShelfList.{header, refused_word, max_word, dash, dot, digit, decimal, hex, key_text, element_text, edge_text, slot_line, slot_lines, table_text}
use Rattle.model.specs.list.ShelfList.{list_pivots, list_edges, not_list_size, list_causes, refused_text, shelf_list}
use Rattle.model.specs.Rows.{header_line}

-- the pivots ε, 01 to 0A, AF FF and max, with the edges CA FE and ε
abbrev pub pivots_u : PivotTable
pivots_u = key [] ∷ key (0x01 ∷ []) ∷ key (0x02 ∷ []) ∷ key (0x03 ∷ []) ∷ key (0x04 ∷ []) ∷ key (0x05 ∷ []) ∷ key (0x06 ∷ []) ∷ key (0x07 ∷ []) ∷ key (0x08 ∷ []) ∷ key (0x09 ∷ []) ∷ key (0x0a ∷ []) ∷ key (0xaf ∷ 0xff ∷ []) ∷ max ∷ []

abbrev pub edges_u : EdgeTable
edges_u = no_edge ∷ edge (0xca ∷ 0xfe ∷ []) ∷ no_edge ∷ no_edge ∷ no_edge ∷ no_edge ∷ no_edge ∷ no_edge ∷ no_edge ∷ edge [] ∷ no_edge ∷ no_edge ∷ []

abbrev pub lines_u : List ℕ
lines_u =
    0x30 ∷ 0x09 ∷ 0x2d ∷ 0x09 ∷ 0x30 ∷ 0x31 ∷ 0x09 ∷ 0x2d ∷ 0x09 ∷ 0x2d ∷ 0x0a ∷
    0x31 ∷ 0x09 ∷ 0x30 ∷ 0x31 ∷ 0x09 ∷ 0x30 ∷ 0x32 ∷ 0x09 ∷ 0x30 ∷ 0x31 ∷ 0x09 ∷ 0x63 ∷ 0x61 ∷ 0x66 ∷ 0x65 ∷ 0x0a ∷
    0x32 ∷ 0x09 ∷ 0x30 ∷ 0x32 ∷ 0x09 ∷ 0x30 ∷ 0x33 ∷ 0x09 ∷ 0x30 ∷ 0x32 ∷ 0x09 ∷ 0x2d ∷ 0x0a ∷
    0x33 ∷ 0x09 ∷ 0x30 ∷ 0x33 ∷ 0x09 ∷ 0x30 ∷ 0x34 ∷ 0x09 ∷ 0x30 ∷ 0x33 ∷ 0x09 ∷ 0x2d ∷ 0x0a ∷
    0x34 ∷ 0x09 ∷ 0x30 ∷ 0x34 ∷ 0x09 ∷ 0x30 ∷ 0x35 ∷ 0x09 ∷ 0x30 ∷ 0x34 ∷ 0x09 ∷ 0x2d ∷ 0x0a ∷
    0x35 ∷ 0x09 ∷ 0x30 ∷ 0x35 ∷ 0x09 ∷ 0x30 ∷ 0x36 ∷ 0x09 ∷ 0x30 ∷ 0x35 ∷ 0x09 ∷ 0x2d ∷ 0x0a ∷
    0x36 ∷ 0x09 ∷ 0x30 ∷ 0x36 ∷ 0x09 ∷ 0x30 ∷ 0x37 ∷ 0x09 ∷ 0x30 ∷ 0x36 ∷ 0x09 ∷ 0x2d ∷ 0x0a ∷
    0x37 ∷ 0x09 ∷ 0x30 ∷ 0x37 ∷ 0x09 ∷ 0x30 ∷ 0x38 ∷ 0x09 ∷ 0x30 ∷ 0x37 ∷ 0x09 ∷ 0x2d ∷ 0x0a ∷
    0x38 ∷ 0x09 ∷ 0x30 ∷ 0x38 ∷ 0x09 ∷ 0x30 ∷ 0x39 ∷ 0x09 ∷ 0x30 ∷ 0x38 ∷ 0x09 ∷ 0x2d ∷ 0x0a ∷
    0x39 ∷ 0x09 ∷ 0x30 ∷ 0x39 ∷ 0x09 ∷ 0x30 ∷ 0x61 ∷ 0x09 ∷ 0x30 ∷ 0x39 ∷ 0x09 ∷ 0x2e ∷ 0x0a ∷
    0x31 ∷ 0x30 ∷ 0x09 ∷ 0x30 ∷ 0x61 ∷ 0x09 ∷ 0x61 ∷ 0x66 ∷ 0x66 ∷ 0x66 ∷ 0x09 ∷ 0x2d ∷ 0x09 ∷ 0x2d ∷ 0x0a ∷
    0x31 ∷ 0x31 ∷ 0x09 ∷ 0x61 ∷ 0x66 ∷ 0x66 ∷ 0x66 ∷ 0x09 ∷ 0x6d ∷ 0x61 ∷ 0x78 ∷ 0x09 ∷ 0x2d ∷ 0x09 ∷ 0x2d ∷ 0x0a ∷ []

pub list_of-U : shelf_list (0 ∷ 13 ∷ encode_all pivots_u ++ encode_edges edges_u) ≡ header_line ++ lines_u
unfolding lte_key lte lcpright lcp PivotLcp length_field all_zero field_reading reading key_bytes element edge_of record_of encode encode_edge pieces joined records elements edges encode_all encode_edges all rises_from IsStrictlySorted edges_fit WFEdges outcome pivot_causes table_causes not_pivot_count not_edge_count pivots_read edges_read header max_word dash dot digit decimal hex key_text element_text edge_text slot_line slot_lines table_text list_pivots list_edges not_list_size list_causes shelf_list
list_of-U = refl

-- `refused`, a tab, digits and 0A
abbrev pub refused_line_of : List ℕ → List ℕ
refused_line_of ds = 0x72 ∷ 0x65 ∷ 0x66 ∷ 0x75 ∷ 0x73 ∷ 0x65 ∷ 0x64 ∷ 0x09 ∷ ds ++ 0x0a ∷ []

abbrev pub refused_line : ℕ → List ℕ
refused_line d = refused_line_of (d ∷ [])

-- two pivots and an edge
abbrev pub two_pivots : List ℕ → List ℕ → List ℕ → List ℕ
two_pivots a b e = 0 ∷ 2 ∷ a ++ b ++ e

-- no input; a length field of 65; 42 before 41; an edge from ε to max
pub refused_lists : (shelf_list [] ≡ refused_line 0x31)
    × (shelf_list (two_pivots (record_of 65 []) (encode max) (encode_edge no_edge)) ≡ refused_line 0x32)
    × (shelf_list (two_pivots (encode (key (0x42 ∷ []))) (encode (key (0x41 ∷ []))) (encode_edge no_edge)) ≡ refused_line 0x33)
    × (shelf_list (two_pivots (encode (key [])) (encode max) (encode_edge (edge (0x43 ∷ [])))) ≡ refused_line 0x34)
unfolding lte_key lte lcpright lcp PivotLcp length_field all_zero field_reading reading key_bytes element edge_of record_of encode encode_edge pieces joined records elements edges all rises_from IsStrictlySorted edges_fit WFEdges outcome pivot_causes table_causes not_pivot_count not_edge_count pivots_read edges_read refused_word digit decimal list_pivots list_edges not_list_size list_causes refused_text shelf_list
refused_lists = (refl, refl, refl, refl)

-- a list refuses with 1 to 4 only, but the line has both digits of a greater number
pub two_digits : (refused_text NoRoom ≡ refused_line_of (0x31 ∷ 0x30 ∷ [])) × (refused_text WrongIndex ≡ refused_line_of (0x31 ∷ 0x35 ∷ []))
unfolding refused_word digit decimal refused_text
two_digits = (refl, refl)
