-- The edge of the cut slot, by the records that stand there, and by the table.
use Rattle.std.specs.Prelude.{Result}
use Rattle.model.specs.declared.Refusal.{Refusal}
use mathlib.Core.Path.{◌≡◌, ◌∙◌}
use mathlib.Core.Bool.{Bool, true, false}
use mathlib.Core.List.{List}
use mathlib.Core.Option.{none}
use Prim.Native.Nat.{ℕ, ◌+◌, ◌*◌, ◌/◌, ◌≤◌, ◌<◌}
use native.Mathlib.Omega.{arith}
use mir.Syntax.{w8}
use mir.Val.{Fits}
use lib.ListN.{length, take, drop, get_or}
use Rattle.model.specs.keys.Key.{Bytes, IsPrefix, max_len, too_long}
use Rattle.model.specs.keys.Order.{key}
use Rattle.model.specs.records.Record.{record_size, reading, edge_reading, key_bytes, element, elements, records, edges, edge_of, encode_edge}
use Rattle.model.specs.inner.Places.{record_at}
use Rattle.model.specs.ranges.RangePrefix.{lcp, PivotLcp}
use Rattle.model.specs.tables.Tables.{PivotTable, pivot_at, edge_at}
use Rattle.model.specs.cuts.Cuts.{cut_edge, edge_within}
use Rattle.model.specs.cuts.Sides.{inside, cutoff}
use Rattle.model.specs.inner.CutSlot.{cut_from, cut_upto}
use Rattle.model.specs.calls.Refusals.{first, answer, leaves}
use Rattle.model.specs.calls.TableCalls.{edge_slot_causes}
use Rattle.model.proofs.keys.Key.{prefix_is_take, prefix_length, bytes_of, bytes_take, bytes_drop}
use Rattle.model.proofs.records.Record.{short_edge_lem, encode_edge_lem}
use Rattle.model.proofs.records.Records.{piece_at}
use Rattle.model.proofs.ranges.RangePrefix.{prefix_of_left}
use Rattle.model.proofs.calls.SlotCalls.{record_size_lem, slot_edge_reads}
use Rattle.model.proofs.calls.CutCalls.{cut_table, cut_key, cut_slot_edge_lem, cut_left_key, cut_right_element, cut_old_edge, cut_left_short, cut_grows}
use Rattle.slot_edges.specs.Slot.{grown_answer, grown_leaves, slot_prefix, cut_prefix, slot_edge_answer, slot_edge_leaves, edge_cut, long_edge_causes}
use Rattle.slot_edges.proofs.Edges.{grown_answer_lem, grown_left}

-- ---- what is made of the records at c and c + 1

-- the part of a key as long as the range's prefix is the prefix
prefix_part : (n : ℕ) (l u : List ℕ) → n ≡ length (PivotLcp (key l) (element u)) → take n l ≡ PivotLcp (key l) (element u)
prefix_part n l u e = rw e (prefix_is_take _ l (prefix_of_left l (element u)))

key_part : (n : ℕ) (l k : List ℕ) → n ≡ length (lcp l k) → take n l ≡ PivotLcp (key l) (key k)
unfolding PivotLcp
key_part n l k e = rw e (prefix_is_take (lcp l k) l (prefix_of_left l (key k)))

module _ (left : Bool) (p e k : List ℕ) (c : ℕ) (r from u er : List ℕ) (g : from ≡ key_bytes r) (a : r ≡ record_at p c) (b : u ≡ record_at p (c + 1))
    (d : er ≡ record_at e c) (n : ℕ) (x : n ≡ length (PivotLcp (key from) (element u))) where
  old_is : take n from ≡ slot_prefix p c
  unfolding slot_prefix
  old_is = prefix_part n from u x ∙ rw (g, a, b)

  -- the prefix of what is left of the slot
  module _ (new : List ℕ) (y : new ≡ cut_prefix left p k c) where
    answer_is : (z : Result ℕ Refusal) → z ≡ grown_answer (take n from) new er → z ≡ slot_edge_answer left p e k c
    unfolding slot_edge_answer
    answer_is z q = q ∙ rw (old_is, y, d)

    left_is : (w made : List ℕ) → w ≡ grown_leaves (take n from) new er made → w ≡ slot_edge_leaves left p e k c made
    unfolding slot_edge_leaves
    left_is w made q = q ∙ rw (old_is, y, d)

  -- ---- on the left

  module _ (m : ℕ) (v : left ≡ true) (y : m ≡ length (lcp from k)) where
    on_left : take m from ≡ cut_prefix left p k c
    unfolding cut_prefix
    on_left = rw v (key_part m from k y ∙ rw (g, a))

    pub left_answer : (z : Result ℕ Refusal) → z ≡ grown_answer (take n from) (take m from) er → z ≡ slot_edge_answer left p e k c
    left_answer = answer_is (take m from) on_left

    pub left_made : (w made : List ℕ) → w ≡ grown_leaves (take n from) (take m from) er made → w ≡ slot_edge_leaves left p e k c made
    left_made = left_is (take m from) on_left

  -- ---- on the right

  module _ (m : ℕ) (v : left ≡ false) (y : m ≡ length (PivotLcp (key k) (element u))) where
    on_right : take m k ≡ cut_prefix left p k c
    unfolding cut_prefix
    on_right = rw v (prefix_part m k u y ∙ rw b)

    pub right_answer : (z : Result ℕ Refusal) → z ≡ grown_answer (take n from) (take m k) er → z ≡ slot_edge_answer left p e k c
    right_answer = answer_is (take m k) on_right

    pub right_made : (w made : List ℕ) → w ≡ grown_leaves (take n from) (take m k) er made → w ≡ slot_edge_leaves left p e k c made
    right_made = left_is (take m k) on_right

-- ---- where none of the causes 1 to 5 applies, and c is the slot, it is the cut edge of the table

-- the prefix of what a cut leaves of a slot, by the slot's pivots
prefix_is : (left : Bool) (pt : PivotTable) (p k : List ℕ) (c : ℕ) → pivot_at pt (cutoff left pt k) ≡ key (key_bytes (record_at p c))
    → pivot_at pt (cutoff left pt k + 1) ≡ element (record_at p (c + 1)) → cut_prefix left p k c ≡ PivotLcp (cut_from left pt k) (cut_upto left pt k)
unfolding cut_prefix
prefix_is true pt p k c h i = rw h
prefix_is false pt p k c h i = rw i

-- it begins the slot's first key, or k
prefix_short : (left : Bool) (p k : List ℕ) (c : ℕ) → length (key_bytes (record_at p c)) ≤ max_len → length k ≤ max_len → length (cut_prefix left p k c) ≤ max_len
unfolding cut_prefix
prefix_short true p k c h i = omega (arith, prefix_length _ (key_bytes (record_at p c)) (prefix_of_left (key_bytes (record_at p c)) (key k)))
prefix_short false p k c h i = omega (arith, prefix_length _ k (prefix_of_left k (element (record_at p (c + 1)))))

-- a record among bytes is bytes
bytes_inside : (l : List ℕ) (i : ℕ) → i < length l / record_size → Bytes l → Bytes (record_at l i)
unfolding records
bytes_inside l i h b = rw (piece_at record_size (length l / record_size) i l h) (bytes_take record_size (drop (i * record_size) l) (bytes_drop (i * record_size) l b))

module _ (left : Bool) (p e k : List ℕ) (c : ℕ) (o : first (edge_slot_causes p e k (inside left (elements p) k)) ≡ none)
    (f : c ≡ cutoff left (elements p) k) where
  from_key : pivot_at (elements p) (cutoff left (elements p) k) ≡ key (key_bytes (record_at p c))
  from_key = rw f (cut_left_key left p e k o)

  upto_is : pivot_at (elements p) (cutoff left (elements p) k + 1) ≡ element (record_at p (c + 1))
  upto_is = rw f (cut_right_element left p e k o)

  edge_is : edge_at (edges e) (cutoff left (elements p) k) ≡ edge_of (record_at e c)
  edge_is = rw f (cut_old_edge left p e k o)

  old_prefix : slot_prefix p c ≡ PivotLcp (pivot_at (elements p) (cutoff left (elements p) k)) (pivot_at (elements p) (cutoff left (elements p) k + 1))
  unfolding slot_prefix
  old_prefix = rw (from_key, upto_is)

  new_prefix_lem : cut_prefix left p k c ≡ PivotLcp (cut_from left (elements p) k) (cut_upto left (elements p) k)
  new_prefix_lem = prefix_is left (elements p) p k c from_key upto_is

  new_short : length (cut_prefix left p k c) ≤ max_len
  new_short = prefix_short left p k c (rw f (cut_left_short left p e k o)) (cut_key left p e k o)

  cut_is : edge_cut left p e k ≡ cut_edge (slot_prefix p c) (cut_prefix left p k c) (edge_of (record_at e c))
  unfolding edge_cut edge_within
  cut_is = rw (old_prefix, new_prefix_lem, edge_is)

  reads : edge_reading (reading (record_at e c)) ≡ true
  reads = slot_edge_reads false (too_long k) p e (cut_table left p e k o) c (rw f (cut_slot_edge_lem left p e k o))

  record_of_lem : Bytes e → encode_edge (edge_of (record_at e c)) ≡ record_at e c
  record_of_lem t =
      let i : c < length e / record_size = rw f (cut_slot_edge_lem left p e k o) in
      encode_edge_lem (record_at e c) (bytes_inside e c i t) (record_size_lem e c i) reads

  grows : Bytes p → Bytes k → IsPrefix (slot_prefix p c) (cut_prefix left p k c) ≡ true
  grows s t = rw (old_prefix, new_prefix_lem) (cut_grows left p e k o s t)

-- what making it answers and leaves, in the table's terms
module _ (left : Bool) (p e k : List ℕ) (c : ℕ) where
  pub slot_edge_answer_lem : (z : Result ℕ Refusal) → z ≡ slot_edge_answer left p e k c → first (edge_slot_causes p e k (inside left (elements p) k)) ≡ none
      → c ≡ cutoff left (elements p) k → ((i : ℕ) → Fits w8 (get_or p i 0)) → ((i : ℕ) → Fits w8 (get_or k i 0))
      → z ≡ answer (long_edge_causes (edge_cut left p e k)) 1
  unfolding slot_edge_answer
  slot_edge_answer_lem z q o f s t =
      let g = grows left p e k c o f (bytes_of p s) (bytes_of k t) in
      let r = short_edge_lem (record_at e c) (reads left p e k c o f) in
      q ∙ rw (cut_is left p e k c o f) (grown_answer_lem (slot_prefix p c) (cut_prefix left p k c) (record_at e c) g (new_short left p e k c o f) r)

  pub slot_edge_left : (w made : List ℕ) → w ≡ slot_edge_leaves left p e k c made → first (edge_slot_causes p e k (inside left (elements p) k)) ≡ none
      → c ≡ cutoff left (elements p) k → ((i : ℕ) → Fits w8 (get_or p i 0)) → ((i : ℕ) → Fits w8 (get_or k i 0)) → ((i : ℕ) → Fits w8 (get_or e i 0))
      → record_size ≤ length made → w ≡ leaves (long_edge_causes (edge_cut left p e k)) (encode_edge (edge_cut left p e k)) made
  unfolding slot_edge_leaves
  slot_edge_left w made q o f s t u m =
      let g = grows left p e k c o f (bytes_of p s) (bytes_of k t) in
      let r = short_edge_lem (record_at e c) (reads left p e k c o f) in
      let h = record_of_lem left p e k c o f (bytes_of e u) in
      q ∙ rw (cut_is left p e k c o f) (grown_left (slot_prefix p c) (cut_prefix left p k c) (record_at e c) g (new_short left p e k c o f) r made h m)
