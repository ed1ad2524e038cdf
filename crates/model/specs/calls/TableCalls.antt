-- The calls on tables: when causes 1 to 4 apply to lent bytes, and for each call its causes in order and its answer.
use Rattle.std.specs.Prelude.{Bool, true, false, cond, not, ◌&&◌, ◌||◌, List, [], ◌∷◌, ◌++◌, ℕ, ◌+◌, ◌*◌, ◌/◌, ◌%◌, eqb, leb, ltb, length, Result}
use Rattle.model.specs.declared.Refusal.{Refusal}
use Rattle.model.specs.declared.Refusal.TheVariants.{Shape, Malformed, Unsorted, EmptyPrefix, OutOfRange, NoSuchSlot, NotBelow, NoRoom}
use Rattle.model.specs.keys.Key.{Key, is_nil, too_long}
use Rattle.model.specs.keys.Order.{key, is_key, lt}
use Rattle.model.specs.records.Record.{record_size, reading, key_reading, element_reading, edge_reading, records, element, elements, edges, encode_all}
use Rattle.model.specs.tables.Tables.{PivotTable, min_pivots, max_pivots, all, pivot_at, IsStrictlySorted, WFEdges, ContainsAllKeys, ContainsRange}
use Rattle.model.specs.tables.Tables.{BoundedKey, ValidLeftCutOffKey, PivotInsertable, GetKey, InitPivotTable, Route, CutoffForLeft, CutoffForRight}
use Rattle.model.specs.calls.Refusals.{Cause, ◌⇒◌, answer, leaves, part}
use Rattle.model.specs.calls.KeyCalls.{not_record, not_element, no_room}

-- "A slice isn't whole records, a count is outside its limits"
unfoldable pub not_pivot_count : List ℕ → Bool
not_pivot_count p =
    not (eqb (length p % record_size) 0 && leb min_pivots (length p / record_size) && leb (length p / record_size) max_pivots)

-- "edges aren't one fewer than pivots"
unfoldable pub not_edge_count : List ℕ → List ℕ → Bool
not_edge_count p e = not (eqb (length e + record_size) (length p))

-- each record reads as a key, the last also as max: "max anywhere but as the last pivot" is a wrong mark
unfoldable pub pivots_read : List (List ℕ) → Bool
pivots_read [] = true
pivots_read (r ∷ rs) = cond (is_nil rs) (element_reading (reading r)) (key_reading (reading r)) && pivots_read rs

unfoldable pub edges_read : List (List ℕ) → Bool
edges_read rs = all (λ (r : List ℕ). edge_reading (reading r)) rs

-- the edges lent stand on the pivots lent
abbrev pub edges_stand : List ℕ → List ℕ → Bool
edges_stand p e = WFEdges (edges e) (elements p)

-- causes 1 to 3 of pivots; whether another argument has cause 1 or 2 comes with them, since a smaller number of any argument comes first
unfoldable pub pivot_causes : Bool → Bool → List ℕ → List Cause
pivot_causes shape wrong p =
    (shape || not_pivot_count p ⇒ Shape) ∷
    (wrong || not (pivots_read (records p)) ⇒ Malformed) ∷
    (not (IsStrictlySorted (elements p)) ⇒ Unsorted) ∷ []

-- causes 1 to 4 of pivots and edges
unfoldable pub table_causes : Bool → Bool → List ℕ → List ℕ → List Cause
table_causes shape wrong p e =
    pivot_causes (shape || not_edge_count p e) (wrong || not (edges_read (records e))) p
    ++ ((not (edges_stand p e) ⇒ EmptyPrefix) ∷ [])

-- WFPivots and WFEdges: "yes, or the number"
abbrev pub wf_pivots_answer : List ℕ → Result Bool Refusal
wf_pivots_answer p = answer (pivot_causes false false p) true

abbrev pub wf_edges_answer : List ℕ → List ℕ → Result Bool Refusal
wf_edges_answer p e = answer (table_causes false false p e) true

-- ---- questions

abbrev pub contains_all_keys_answer : List ℕ → Result Bool Refusal
contains_all_keys_answer p = answer (pivot_causes false false p) (ContainsAllKeys (elements p))

-- the range is a key and an element, the key below the element
abbrev pub contains_range_causes : List ℕ → Key → List ℕ → List Cause
contains_range_causes p l r =
    pivot_causes (not_record r) (too_long l || not_element r) p ++ ((not (lt (key l) (element r)) ⇒ NotBelow) ∷ [])

abbrev pub contains_range_answer : List ℕ → Key → List ℕ → Result Bool Refusal
contains_range_answer p l r = answer (contains_range_causes p l r) (ContainsRange (elements p) (key l) (element r))

-- a table and a key
abbrev pub key_causes : List ℕ → Key → List Cause
key_causes p k = pivot_causes false (too_long k) p

abbrev pub bounded_key_answer : List ℕ → Key → Result Bool Refusal
bounded_key_answer p k = answer (key_causes p k) (BoundedKey (elements p) k)

abbrev pub valid_left_cut_off_key_answer : List ℕ → Key → Result Bool Refusal
valid_left_cut_off_key_answer p k = answer (key_causes p k) (ValidLeftCutOffKey (elements p) k)

abbrev pub pivot_insertable_answer : List ℕ → ℕ → Key → Result Bool Refusal
pivot_insertable_answer p i k = answer (key_causes p k) (PivotInsertable (elements p) i k)

-- ---- GetKey: "a place isn't below the pivot count or holds max"

abbrev pub no_key_at : PivotTable → ℕ → Bool
no_key_at pt i = not (ltb i (length pt) && is_key (pivot_at pt i))

abbrev pub get_key_causes : List ℕ → ℕ → List Cause
get_key_causes p i = pivot_causes false false p ++ ((no_key_at (elements p) i ⇒ NoSuchSlot) ∷ [])

abbrev pub get_key_answer : List ℕ → ℕ → Result ℕ Refusal
get_key_answer p i = answer (get_key_causes p i) (length (GetKey (elements p) i))

abbrev pub get_key_part : List ℕ → ℕ → List ℕ
get_key_part p i = part (get_key_causes p i) (GetKey (elements p) i)

-- ---- InitPivotTable, into d

abbrev pub init_pivot_table_causes : List ℕ → List Cause
init_pivot_table_causes d = (no_room (min_pivots * record_size) d ⇒ NoRoom) ∷ []

abbrev pub init_pivot_table_answer : List ℕ → Result ℕ Refusal
init_pivot_table_answer d = answer (init_pivot_table_causes d) min_pivots

abbrev pub init_pivot_table_leaves : List ℕ → List ℕ
init_pivot_table_leaves d = leaves (init_pivot_table_causes d) (encode_all InitPivotTable) d

-- ---- Route, CutoffForLeft, CutoffForRight: the slot, or 5 where `inside` does not hold

abbrev pub slot_causes : List ℕ → Key → Bool → List Cause
slot_causes p k inside = key_causes p k ++ ((not inside ⇒ OutOfRange) ∷ [])

abbrev pub route_answer : List ℕ → Key → Result ℕ Refusal
route_answer p k = answer (slot_causes p k (BoundedKey (elements p) k)) (Route (elements p) k)

abbrev pub cutoff_for_left_answer : List ℕ → Key → Result ℕ Refusal
cutoff_for_left_answer p k = answer (slot_causes p k (ValidLeftCutOffKey (elements p) k)) (CutoffForLeft (elements p) k)

abbrev pub cutoff_for_right_answer : List ℕ → Key → Result ℕ Refusal
cutoff_for_right_answer p k = answer (slot_causes p k (BoundedKey (elements p) k)) (CutoffForRight (elements p) k)

-- pivots p, edges e and a key k: causes 1 to 4, and 5 where the key isn't inside
abbrev pub edge_slot_causes : List ℕ → List ℕ → Key → Bool → List Cause
edge_slot_causes p e k inside = table_causes false (too_long k) p e ++ ((not inside ⇒ OutOfRange) ∷ [])
