-- Pivots and edges under another prefix: for each call its causes in order, its answer, and what it leaves in its destination.
use Rattle.std.specs.Prelude.{Bool, false, not, ◌&&◌, ◌||◌, List, [], ◌∷◌, ◌++◌, ℕ, ◌*◌, ◌-◌, length, take, Result}
use Rattle.model.specs.declared.Refusal.{Refusal}
use Rattle.model.specs.declared.Refusal.TheVariants.{Shape, Malformed, NotPrefix, TooLong, NotBelow, NoRoom}
use Rattle.model.specs.keys.Key.{Key, too_long, IsPrefix}
use Rattle.model.specs.keys.Order.{Element, key, lt}
use Rattle.model.specs.records.Record.{record_size, element, elements, edges, encode_all, encode_edges}
use Rattle.model.specs.tables.Tables.{PivotTable, EdgeTable, NumBuckets, pivot_at, key_of, all, short_element}
use Rattle.model.specs.translation.Renaming.{Bounds, TranslateElement, TranslatePivotPairInternal, TranslatePivots, TranslateEdges}
use Rattle.model.specs.calls.Refusals.{Cause, ◌⇒◌, answer, leaves}
use Rattle.model.specs.calls.KeyCalls.{not_record, not_element, no_room}
use Rattle.model.specs.calls.TableCalls.{pivot_causes, table_causes}

-- ---- translate_pivot_pair: the range from the key l up to the element r, prefix p changed to q, into d

-- the new bounds
abbrev pub new_bounds : Key → List ℕ → Key → Key → Bounds
new_bounds l r p q = TranslatePivotPairInternal (key l) (element r) p q

-- "A produced key passes 64 bytes": either bound
abbrev pub long_bounds : Bounds → Bool
long_bounds b = not (short_element b.left && short_element b.right)

-- "two records", left and right
abbrev pub both_bounds : Bounds → PivotTable
both_bounds b = b.left ∷ b.right ∷ []

abbrev pub pivot_pair_causes : Key → List ℕ → Key → Key → List ℕ → List Cause
pivot_pair_causes l r p q d =
    (not_record r ⇒ Shape) ∷
    (too_long l || not_element r || too_long p || too_long q ⇒ Malformed) ∷
    (not (IsPrefix p l) ⇒ NotPrefix) ∷
    (long_bounds (new_bounds l r p q) ⇒ TooLong) ∷
    (not (lt (key l) (element r)) ⇒ NotBelow) ∷
    (no_room (2 * record_size) d ⇒ NoRoom) ∷ []

abbrev pub pivot_pair_answer : Key → List ℕ → Key → Key → List ℕ → Result ℕ Refusal
pivot_pair_answer l r p q d = answer (pivot_pair_causes l r p q d) 2

abbrev pub pivot_pair_leaves : Key → List ℕ → Key → Key → List ℕ → List ℕ
pivot_pair_leaves l r p q d = leaves (pivot_pair_causes l r p q d) (encode_all (both_bounds (new_bounds l r p q))) d

-- ---- translate_pivots: the pivots v, prefix p changed to q, the given end n, into d

-- the pivots that are translated: all but the last
abbrev pub but_last : PivotTable → PivotTable
but_last pt = take (NumBuckets pt) pt

-- the prefix begins the key
abbrev pub begun : Key → Element → Bool
begun p x = IsPrefix p (key_of x)

-- the new pivots
abbrev pub new_pivots : List ℕ → Key → Key → List ℕ → PivotTable
new_pivots v p q n = TranslatePivots (elements v) p q (element n)

-- "the last translated key"
abbrev pub last_translated : List ℕ → Key → Key → Element
last_translated v p q = TranslateElement p q (pivot_at (elements v) (NumBuckets (elements v) - 1))

abbrev pub pivots_causes : List ℕ → Key → Key → List ℕ → List ℕ → List Cause
pivots_causes v p q n d =
    pivot_causes (not_record n) (too_long p || too_long q || not_element n) v
    ++ (not (all (begun p) (but_last (elements v))) ⇒ NotPrefix) ∷
    (not (all short_element (new_pivots v p q n)) ⇒ TooLong) ∷
    (not (lt (last_translated v p q) (element n)) ⇒ NotBelow) ∷
    (no_room (length (new_pivots v p q n) * record_size) d ⇒ NoRoom) ∷ []

abbrev pub pivots_answer : List ℕ → Key → Key → List ℕ → List ℕ → Result ℕ Refusal
pivots_answer v p q n d = answer (pivots_causes v p q n d) (length (new_pivots v p q n))

abbrev pub pivots_leaves : List ℕ → Key → Key → List ℕ → List ℕ → List ℕ
pivots_leaves v p q n d = leaves (pivots_causes v p q n d) (encode_all (new_pivots v p q n)) d

-- ---- translate_edges: the pivots p with their edges e, into d

abbrev pub new_edges : List ℕ → List ℕ → EdgeTable
new_edges p e = TranslateEdges (edges e) (elements p)

abbrev pub edges_causes : List ℕ → List ℕ → List ℕ → List Cause
edges_causes p e d = table_causes false false p e ++ (no_room (length (new_edges p e) * record_size) d ⇒ NoRoom) ∷ []

abbrev pub edges_answer : List ℕ → List ℕ → List ℕ → Result ℕ Refusal
edges_answer p e d = answer (edges_causes p e d) (length (new_edges p e))

abbrev pub edges_leaves : List ℕ → List ℕ → List ℕ → List ℕ
edges_leaves p e d = leaves (edges_causes p e d) (encode_edges (new_edges p e)) d
