-- Elements and edges as records of 66 bytes, and a bucket's entries: how bytes are read and written.
use Rattle.std.specs.Prelude.{Bool, true, false, cond, ◌&&◌, List, [], ◌∷◌, ◌++◌, map, ℕ, zero, suc, ◌+◌, ◌*◌, ◌-◌, ◌/◌, ◌%◌, eqb, leb, length, take, drop, get_or, replicate}
use Rattle.model.specs.declared.Reading.{Reading}
use Rattle.model.specs.declared.Reading.TheVariants as reads
use Rattle.model.specs.keys.Key.{Key, max_len}
use Rattle.model.specs.keys.Order.{Element, key, max}

-- "one record of 66 bytes", and its two marks
abbrev pub record_size : ℕ
record_size = 66

abbrev pub no_edge_mark : ℕ
no_edge_mark = 65534

abbrev pub max_mark : ℕ
max_mark = 65535

-- Option<Key> of an EdgeTable: a replacement prefix, or no edge
pub data Edge : Type 0 where
  edge : Key → Edge
  no_edge : Edge

-- ---- reading

-- "a length field of two bytes, high byte first"
unfoldable pub length_field : List ℕ → ℕ
length_field r = get_or r 0 0 * 256 + get_or r 1 0

unfoldable pub all_zero : List ℕ → Bool
all_zero [] = true
all_zero (b ∷ l) = eqb b 0 && all_zero l

-- "A length field is read in four ways"
unfoldable pub field_reading : ℕ → Reading
field_reading n =
    cond (leb n max_len) (reads.Key n)
    (cond (eqb n no_edge_mark) reads.NoEdge
    (cond (eqb n max_mark) reads.Max reads.Malformed))

-- the bytes after the length field that need not be zero: none in a mark
abbrev pub key_length : Reading → ℕ
key_length (reads.Key n) = n
key_length reads.Malformed = 0
key_length reads.NoEdge = 0
key_length reads.Max = 0

-- "A record with another byte where zero must be is malformed too"
unfoldable pub reading : List ℕ → Reading
reading r =
    cond (all_zero (drop (2 + key_length (field_reading (length_field r))) r))
    (field_reading (length_field r))
    reads.Malformed

-- the bytes that the length field counts
unfoldable pub key_bytes : List ℕ → Key
key_bytes r = take (length_field r) (drop 2 r)

-- what a record stands for, once its reading is known to fit its place
unfoldable pub element : List ℕ → Element
element r = cond (eqb (length_field r) max_mark) max (key (key_bytes r))

unfoldable pub edge_of : List ℕ → Edge
edge_of r = cond (eqb (length_field r) no_edge_mark) no_edge (edge (key_bytes r))

-- the readings that fit a place: a key, and each mark where it may stand
abbrev pub allowed : Bool → Bool → Reading → Bool
allowed orNoEdge orMax (reads.Key n) = true
allowed orNoEdge orMax reads.Malformed = false
allowed orNoEdge orMax reads.NoEdge = orNoEdge
allowed orNoEdge orMax reads.Max = orMax

-- where a key must stand, where an element, and where an edge
abbrev pub key_reading : Reading → Bool
key_reading w = allowed false false w

abbrev pub element_reading : Reading → Bool
element_reading w = allowed false true w

abbrev pub edge_reading : Reading → Bool
edge_reading w = allowed true false w

-- ---- writing

abbrev pub zeros : ℕ → List ℕ
zeros n = replicate n 0

-- a key in 64 bytes, "zero after the key's end"
abbrev pub padded : Key → List ℕ
padded k = k ++ zeros (max_len - length k)

-- a length field, and the key's bytes up to the record's end
unfoldable pub record_of : ℕ → Key → List ℕ
record_of n k = n / 256 ∷ n % 256 ∷ padded k

unfoldable pub encode : Element → List ℕ
encode (key k) = record_of (length k) k
encode max = record_of max_mark []

unfoldable pub encode_edge : Edge → List ℕ
encode_edge (edge k) = record_of (length k) k
encode_edge no_edge = record_of no_edge_mark []

-- ---- several records: "the count is the slice's length over 66"

-- the first n pieces of s bytes each
unfoldable pub pieces : ℕ → ℕ → List ℕ → List (List ℕ)
pieces s zero l = []
pieces s (suc n) l = take s l ∷ pieces s n (drop s l)

unfoldable pub joined : List (List ℕ) → List ℕ
joined [] = []
joined (r ∷ rs) = r ++ joined rs

unfoldable pub records : List ℕ → List (List ℕ)
records l = pieces record_size (length l / record_size) l

unfoldable pub elements : List ℕ → List Element
elements l = map element (records l)

unfoldable pub edges : List ℕ → List Edge
edges l = map edge_of (records l)

unfoldable pub encode_all : List Element → List ℕ
encode_all pt = joined (map encode pt)

unfoldable pub encode_edges : List Edge → List ℕ
encode_edges et = joined (map encode_edge et)
