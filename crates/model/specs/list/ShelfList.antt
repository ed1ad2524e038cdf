-- "The shelf list": the text of one table, to the byte.
use Rattle.std.specs.Prelude.{Bool, false, cond, not, List, [], ◌∷◌, ◌++◌, ℕ, suc, ◌+◌, ◌*◌, ◌-◌, ◌/◌, ◌%◌, eqb, ltb, length, take, drop, Result}
use Rattle.model.specs.declared.Refusal.{Refusal}
use Rattle.model.specs.declared.Refusal.TheVariants.{NoRoom}
use Rattle.model.specs.keys.Key.{Key}
use Rattle.model.specs.keys.Order.{Element, key, max}
use Rattle.model.specs.records.Record.{Edge, edge, no_edge, record_size, length_field, elements, edges}
use Rattle.model.specs.ranges.RangePrefix.{PivotLcp}
use Rattle.model.specs.tables.Tables.{PivotTable, EdgeTable}
use Rattle.model.specs.calls.Refusals.{Cause, ◌⇒◌, number, outcome, answer, leaves}
use Rattle.model.specs.calls.KeyCalls.{no_room}
use Rattle.model.specs.calls.TableCalls.{table_causes}

abbrev pub tab : ℕ
tab = 0x09

abbrev pub newline : ℕ
newline = 0x0a

-- "The header line is these bytes exactly": slot, left, right, shared, edge
unfoldable pub header : List ℕ
header =
    0x73 ∷ 0x6c ∷ 0x6f ∷ 0x74 ∷ tab ∷
    0x6c ∷ 0x65 ∷ 0x66 ∷ 0x74 ∷ tab ∷
    0x72 ∷ 0x69 ∷ 0x67 ∷ 0x68 ∷ 0x74 ∷ tab ∷
    0x73 ∷ 0x68 ∷ 0x61 ∷ 0x72 ∷ 0x65 ∷ 0x64 ∷ tab ∷
    0x65 ∷ 0x64 ∷ 0x67 ∷ 0x65 ∷ newline ∷ []

-- `refused`, `max`, `-` and `.`
unfoldable pub refused_word : List ℕ
refused_word = 0x72 ∷ 0x65 ∷ 0x66 ∷ 0x75 ∷ 0x73 ∷ 0x65 ∷ 0x64 ∷ []

unfoldable pub max_word : List ℕ
max_word = 0x6d ∷ 0x61 ∷ 0x78 ∷ []

unfoldable pub dash : List ℕ
dash = 0x2d ∷ []

unfoldable pub dot : List ℕ
dot = 0x2e ∷ []

-- a digit: `0` to `9`, then `a` to `f`
unfoldable pub digit : ℕ → ℕ
digit d = cond (ltb d 10) (0x30 + d) (0x57 + d)

-- a number below 100 in decimal: there are at most 63 slots, and fifteen refusals
unfoldable pub decimal : ℕ → List ℕ
decimal n = cond (ltb n 10) (digit n ∷ []) (digit (n / 10) ∷ digit (n % 10) ∷ [])

-- "Keys are lower-case hexadecimal"
unfoldable pub hex : Key → List ℕ
hex [] = []
hex (b ∷ k) = digit (b / 16) ∷ digit (b % 16) ∷ hex k

-- "ε is `-`"
unfoldable pub key_text : Key → List ℕ
key_text [] = dash
key_text (b ∷ k) = hex (b ∷ k)

-- "max is `max`"
unfoldable pub element_text : Element → List ℕ
element_text (key k) = key_text k
element_text max = max_word

-- W6: "Write an empty edge as a single `.` in the last column. No edge stays `-`"
unfoldable pub edge_text : Edge → List ℕ
edge_text (edge []) = dot
edge_text (edge (b ∷ q)) = hex (b ∷ q)
edge_text no_edge = dash

-- one slot: its number, the pivots, the range's prefix and the edge
unfoldable pub slot_line : ℕ → Element → Element → Edge → List ℕ
slot_line i l r e =
    decimal i ++ tab ∷ element_text l ++ tab ∷ element_text r ++ tab ∷ key_text (PivotLcp l r) ++ tab ∷ edge_text e ++ newline ∷ []

-- the lines of the slots from number i and pivot l on
unfoldable pub slot_lines : ℕ → Element → PivotTable → EdgeTable → List ℕ
slot_lines i l [] et = []
slot_lines i l (r ∷ pt) [] = []
slot_lines i l (r ∷ pt) (e ∷ et) = slot_line i l r e ++ slot_lines (suc i) r pt et

unfoldable pub table_text : PivotTable → EdgeTable → List ℕ
table_text [] et = header
table_text (p ∷ pt) et = header ++ slot_lines 0 p pt et

-- ---- what is read: "the pivot count in two bytes, high byte first, then pivots, then edges"

abbrev pub list_count : List ℕ → ℕ
list_count s = length_field s

unfoldable pub list_pivots : List ℕ → List ℕ
list_pivots s = take (list_count s * record_size) (drop 2 s)

unfoldable pub list_edges : List ℕ → List ℕ
list_edges s = drop (2 + list_count s * record_size) s

-- "Missing or extra bytes are 1"
unfoldable pub not_list_size : List ℕ → Bool
not_list_size s = not (eqb (length s) (2 + (list_count s + (list_count s - 1)) * record_size))

unfoldable pub list_causes : List ℕ → List Cause
list_causes s = table_causes (not_list_size s) false (list_pivots s) (list_edges s)

-- "It prints `refused`, a tab and the number, or a header and one line a slot"
unfoldable pub refused_text : Refusal → List ℕ
refused_text r = refused_word ++ tab ∷ decimal (number r) ++ newline ∷ []

unfoldable pub shelf_list : List ℕ → List ℕ
shelf_list s = outcome refused_text (list_causes s) (table_text (elements (list_pivots s)) (edges (list_edges s)))

-- ---- the list as a call, into d: an input that the list refuses is accepted here and its text is the `refused` line; only a destination too short is 10

abbrev pub list_table_causes : List ℕ → List ℕ → List Cause
list_table_causes s d = (no_room (length (shelf_list s)) d ⇒ NoRoom) ∷ []

abbrev pub list_table_answer : List ℕ → List ℕ → Result ℕ Refusal
list_table_answer s d = answer (list_table_causes s d) (length (shelf_list s))

abbrev pub list_table_leaves : List ℕ → List ℕ → List ℕ
list_table_leaves s d = leaves (list_table_causes s d) (shelf_list s) d
