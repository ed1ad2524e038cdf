-- The fields of a line of the list, by the records that they are made of.
use Rattle.std.specs.Prelude.{List, [], ◌∷◌, ℕ, ◌+◌, ◌*◌}
use Rattle.model.specs.keys.Key.{Key}
use Rattle.model.specs.records.Record.{element, edge_of}
use Rattle.model.specs.ranges.RangePrefix.{PivotLcp}
use Rattle.model.specs.list.ShelfList.{tab, newline, hex, key_text, element_text, edge_text}
use Rattle.digits.specs.Field.{field}

-- the digits of a key, or a mark in place of the empty one
unfoldable pub hex_or : ℕ → Key → List ℕ
hex_or mark [] = mark ∷ []
hex_or mark (b ∷ k) = hex (b ∷ k)

-- the fields of the pivot in record r, of the prefix of the range between the pivots in l and r, and of the edge in g
abbrev pub pivot_field : List ℕ → List ℕ
pivot_field r = field (element_text (element r)) tab

abbrev pub shared_field : List ℕ → List ℕ → List ℕ
shared_field l r = field (key_text (PivotLcp (element l) (element r))) tab

abbrev pub edge_field : List ℕ → List ℕ
edge_field g = field (edge_text (edge_of g)) newline

-- how many bytes a length field counts at most, their digits, and a field of them: no sum of lengths passes a word
abbrev pub most_bytes : ℕ
most_bytes = 65535

abbrev pub most_text : ℕ
most_text = 2 * most_bytes

abbrev pub most_field : ℕ
most_field = most_text + 1
