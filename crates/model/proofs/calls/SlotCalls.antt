-- A slot of a table that has none of the causes 1 to 4, by its bytes: its two pivots and its edge.
use mathlib.Core.Path.{◌≡◌, refl}
use mathlib.Core.Bool.{Bool, true, false, cond, false≢true}
use mathlib.Core.List.{List, [], ◌∷◌}
use mathlib.Core.Option.{none}
use Prim.Native.Nat.{ℕ, zero, suc, ◌+◌, ◌*◌, ◌/◌, ◌≤◌, ◌<◌}
use native.Mathlib.Omega.{arith}
use borrow.Author.Tests.{leb-true}
use lib.Dec.{eqb}
use lib.ListN.{length, drop, get_or, length-drop}
use lib.Seq.{length-take-le}
use Rattle.model.specs.declared.Reading.{Reading}
use Rattle.model.specs.declared.Reading.TheVariants as reads
use Rattle.model.specs.keys.Key.{max_len, is_nil}
use Rattle.model.specs.keys.Order.{key, max, is_key, lt}
use Rattle.model.specs.records.Record.{record_size, max_mark, length_field, all_zero, field_reading, key_bytes, reading, key_reading, element_reading, edge_reading}
use Rattle.model.specs.records.Record.{no_edge, element, edge_of, records, elements, edges}
use Rattle.model.specs.inner.Places.{record_at}
use Rattle.model.specs.tables.Tables.{pivot_at, edge_at, short_element, short_edge, WFPivots}
use Rattle.model.specs.calls.Refusals.{first}
use Rattle.model.specs.calls.TableCalls.{pivots_read, edges_read, table_causes}
use Rattle.model.proofs.Lists.{all_at, all_inside}
use Rattle.model.proofs.keys.Key.{both}
use Rattle.model.proofs.records.Records.{piece_at}
use Rattle.model.proofs.tables.Places.{sorted_at}
use Rattle.model.proofs.tables.Routing.{wf_sorted, wf_keys, wf_short}
use Rattle.model.proofs.calls.TableCalls.{length_records, length_elements, length_edges, element_at, edge_at_lem}
use Rattle.model.proofs.calls.TableCalls.{causes_read, table_pivots, table_wf, table_count, table_edges_read, table_edges_short}

-- a record inside has 66 bytes
pub record_size_lem : (p : List ℕ) (i : ℕ) → i < length p / record_size → length (record_at p i) ≡ record_size
unfolding records
record_size_lem p i h =
    rw (piece_at record_size (length p / record_size) i p h) (length-take-le record_size (drop (i * record_size) p) (omega (arith, length-drop (i * record_size) p)))

-- a record among pivots is read as an element
pub read_at : (rs : List (List ℕ)) (i : ℕ) → pivots_read rs ≡ true → element_reading (reading (get_or rs i [])) ≡ true
unfolding pivots_read reading field_reading length_field all_zero
read_at [] i h = refl
read_at (r ∷ rs) zero h = go (is_nil rs) (reading r) (both (cond (is_nil rs) (element_reading (reading r)) (key_reading (reading r))) (pivots_read rs) h).0
  where
    go : (b : Bool) (v : Reading) → cond b (element_reading v) (key_reading v) ≡ true → element_reading v ≡ true
    go true v e = e
    go false (reads.Key n) e = refl
    go false reads.Malformed e = e
    go false reads.NoEdge e = e
    go false reads.Max e = refl
read_at (r ∷ rs) (suc i) h = read_at rs i (both (cond (is_nil rs) (element_reading (reading r)) (key_reading (reading r))) (pivots_read rs) h).1

module _ (shape wrong : Bool) (p e : List ℕ) (h : first (table_causes shape wrong p e) ≡ none) (i : ℕ) (s : i < length e / record_size) where
  wf : WFPivots (elements p) ≡ true
  wf = table_wf shape wrong p e h

  -- the slot's second pivot is in the table
  pub slot_next : i + 1 < length p / record_size
  slot_next = omega (arith, table_count shape wrong p e h, length_edges e, length_elements p)

  -- its pivots rise
  pub slot_rises : lt (pivot_at (elements p) i) (pivot_at (elements p) (i + 1)) ≡ true
  slot_rises = let n = slot_next in sorted_at (elements p) i (i + 1) (wf_sorted (elements p) wf) (omega arith) (omega (arith, length_elements p))

  -- the first is a key, that of its record
  pub slot_left : pivot_at (elements p) i ≡ key (key_bytes (record_at p i))
  unfolding element
  slot_left =
      let n = slot_next in
      let r = element_at p i (omega arith) in
      go (eqb (length_field (record_at p i)) max_mark) r (wf_keys (elements p) wf i (omega (arith, length_elements p)))
    where
      go : (t : Bool) → pivot_at (elements p) i ≡ cond t max (key (key_bytes (record_at p i))) → is_key (pivot_at (elements p) i) ≡ true
          → pivot_at (elements p) i ≡ key (key_bytes (record_at p i))
      go true f g = absurd (false≢true (rw f at g))
      go false f g = f

  -- the second is what its record stands for
  pub slot_right : pivot_at (elements p) (i + 1) ≡ element (record_at p (i + 1))
  slot_right = element_at p (i + 1) slot_next

  -- the edge is what its record stands for
  pub slot_edge_lem : edge_at (edges e) i ≡ edge_of (record_at e i)
  slot_edge_lem = edge_at_lem e i s

  -- the first pivot has at most 64 bytes
  pub slot_left_short : length (key_bytes (record_at p i)) ≤ max_len
  slot_left_short =
      let n = slot_next in
      let w = wf_short (elements p) wf i (omega (arith, length_elements p)) in
      leb-true (length (key_bytes (record_at p i))) max_len (rw slot_left at w)

  -- the second is max or has at most 64
  pub slot_right_short : short_element (pivot_at (elements p) (i + 1)) ≡ true
  slot_right_short = let n = slot_next in wf_short (elements p) wf (i + 1) (omega (arith, length_elements p))

  -- its record is read as an element
  pub slot_right_reads : element_reading (reading (record_at p (i + 1))) ≡ true
  slot_right_reads = read_at (records p) (i + 1) (causes_read _ _ p (table_pivots shape wrong p e h))

  -- the edge is none or has at most 64 bytes
  pub slot_edge_short : short_edge (edge_of (record_at e i)) ≡ true
  slot_edge_short = rw (← slot_edge_lem) (all_at short_edge (edges e) i no_edge refl (table_edges_short shape wrong p e h))

  -- its record is read as an edge
  pub slot_edge_reads : edge_reading (reading (record_at e i)) ≡ true
  unfolding edges_read
  slot_edge_reads =
      all_inside (λ (r : List ℕ). edge_reading (reading r)) (records e) i [] (omega (arith, length_records e)) (table_edges_read shape wrong p e h)
