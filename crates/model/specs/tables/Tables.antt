-- Pivot tables and edge tables: BoundedPivotsLib, and WFEdges of TranslationLib.
use Rattle.std.specs.Prelude.{Bool, true, false, not, ◌&&◌, ◌||◌, List, [], ◌∷◌, ℕ, ◌+◌, ◌-◌, eqb, leb, ltb, length, take, get_or}
use Rattle.model.specs.keys.Key.{Key, max_len, is_nil}
use Rattle.model.specs.keys.Order.{Element, key, max, BytesE, is_key, lte, lt, same, LargestLte, LargestLt}
use Rattle.model.specs.records.Record.{Edge, edge, no_edge}
use Rattle.model.specs.ranges.RangePrefix.{PivotLcp}

abbrev pub PivotTable : Type 0
PivotTable = List Element

abbrev pub EdgeTable : Type 0
EdgeTable = List Edge

-- "A table has 2 to 64 pivots and one edge fewer"
abbrev pub min_pivots : ℕ
min_pivots = 2

abbrev pub max_pivots : ℕ
max_pivots = 64

-- pt[i], et[i] and the last pivot; asked only inside the table
abbrev pub pivot_at : PivotTable → ℕ → Element
pivot_at pt i = get_or pt i max

abbrev pub edge_at : EdgeTable → ℕ → Edge
edge_at et i = get_or et i no_edge

-- pivots made of bytes, as those that are lent are
abbrev pub BytesT : PivotTable → Type 0
BytesT [] = Unit {0}
BytesT (p ∷ pt) = BytesE p × BytesT pt

abbrev pub NumBuckets : PivotTable → ℕ
NumBuckets pt = length pt - 1

abbrev pub last_pivot : PivotTable → Element
last_pivot pt = pivot_at pt (NumBuckets pt)

abbrev pub implies : Bool → Bool → Bool
implies a b = not a || b

unfoldable pub all {ℓ} : {A : Type ℓ} → (A → Bool) → List A → Bool
all test [] = true
all test (x ∷ xs) = test x && all test xs

-- ElementIsKey, where e is a key
abbrev pub short_element : Element → Bool
short_element (key k) = leb (length k) max_len
short_element max = true

-- an edge of at most 64 bytes
abbrev pub short_edge : Edge → Bool
short_edge (edge q) = leb (length q) max_len
short_edge no_edge = true

abbrev pub ElementsAreKeys : PivotTable → Bool
ElementsAreKeys pt = all short_element pt

-- Keyspace.IsStrictlySorted: the pivots after p rise strictly from p on
unfoldable pub rises_from : Element → PivotTable → Bool
rises_from p [] = true
rises_from p (q ∷ pt) = lt p q && rises_from q pt

unfoldable pub IsStrictlySorted : PivotTable → Bool
IsStrictlySorted [] = true
IsStrictlySorted (p ∷ pt) = rises_from p pt

-- WFPivots
unfoldable pub WFPivots : PivotTable → Bool
WFPivots pt =
    IsStrictlySorted pt && all is_key (take (NumBuckets pt) pt) && ElementsAreKeys pt && leb min_pivots (length pt)

-- ContainsAllKeys: from ε to max
unfoldable pub ContainsAllKeys : PivotTable → Bool
ContainsAllKeys pt = WFPivots pt && same (pivot_at pt 0) (key []) && same (last_pivot pt) max

-- ContainsRange
unfoldable pub ContainsRange : PivotTable → Element → Element → Bool
ContainsRange pt left right = lte (pivot_at pt 0) left && lte right (last_pivot pt)

-- BoundedKey
unfoldable pub BoundedKey : PivotTable → Key → Bool
BoundedKey pt k = lte (pivot_at pt 0) (key k) && lt (key k) (last_pivot pt)

-- ValidLeftCutOffKey: "k above the first pivot and not above the last"
unfoldable pub ValidLeftCutOffKey : PivotTable → Key → Bool
ValidLeftCutOffKey pt k = lt (pivot_at pt 0) (key k) && lte (key k) (last_pivot pt)

-- Route, for a bounded key
unfoldable pub Route : PivotTable → Key → ℕ
Route pt k = LargestLte pt (key k)

-- CutoffForLeft, for a valid left cut-off key; CutoffForRight, for a bounded key
unfoldable pub CutoffForLeft : PivotTable → Key → ℕ
CutoffForLeft pt k = LargestLt pt (key k)

unfoldable pub CutoffForRight : PivotTable → Key → ℕ
CutoffForRight pt k = Route pt k

-- InitPivotTable: "the first table ε, max"
unfoldable pub InitPivotTable : PivotTable
InitPivotTable = key [] ∷ max ∷ []

-- GetKey, for a place that holds a key
abbrev pub key_of : Element → Key
key_of (key k) = k
key_of max = []

unfoldable pub GetKey : PivotTable → ℕ → Key
GetKey pt i = key_of (pivot_at pt i)

-- PivotInsertable: "any place number; a place past the count is no"
unfoldable pub PivotInsertable : PivotTable → ℕ → Key → Bool
PivotInsertable pt i k =
    leb i (length pt)
    && implies (eqb i 0) (lt (key k) (pivot_at pt 0))
    && implies (eqb i (length pt)) (lt (last_pivot pt) (key k))
    && implies (ltb 0 i && ltb i (length pt)) (lt (pivot_at pt (i - 1)) (key k) && lt (key k) (pivot_at pt i))
    && implies (BoundedKey pt k) (eqb (Route pt k + 1) i)

-- k is one of the pivots
unfoldable pub is_pivot : PivotTable → Key → Bool
is_pivot [] k = false
is_pivot (p ∷ pt) k = same p (key k) || is_pivot pt k

-- the prefix of a slot's range
abbrev pub slot_prefix : PivotTable → ℕ → Key
slot_prefix pt i = PivotLcp (pivot_at pt i) (pivot_at pt (i + 1))

-- an edge stands only where the range's prefix isn't ε
abbrev pub edge_fits : Key → Edge → Bool
edge_fits prefix (edge q) = not (is_nil prefix)
edge_fits prefix no_edge = true

-- WFEdges but for the count: NonEmptyLcp at each slot with an edge, from the pivot p on
unfoldable pub edges_fit : Element → PivotTable → EdgeTable → Bool
edges_fit p [] et = true
edges_fit p (q ∷ pt) [] = true
edges_fit p (q ∷ pt) (e ∷ et) = edge_fits (PivotLcp p q) e && edges_fit q pt et

-- WFEdges
unfoldable pub WFEdges : EdgeTable → PivotTable → Bool
WFEdges et [] = false
WFEdges et (p ∷ pt) = eqb (length et) (length pt) && edges_fit p pt et
