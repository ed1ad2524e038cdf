-- A cut by its bytes: what stands in the cut slot, and which of the records lent are kept.
use mathlib.Core.Path.{◌≡◌, refl, ◌∙◌}
use mathlib.Core.Bool.{Bool, true, false, and-true, true≢false}
use mathlib.Core.List.{List, [], ◌∷◌, ◌++◌, map, append-nil}
use mathlib.Core.Option.{none}
use Prim.Native.Nat.{ℕ, ◌+◌, ◌/◌, ◌≤◌, ◌<◌}
use native.Mathlib.Omega.{arith}
use borrow.Author.Tests.{leb-true, le-leb, not-false}
use mir.Syntax.{w64}
use mir.Val.{Fits}
use lib.ListN.{length, take, drop}
use Rattle.model.specs.declared.Refusal.TheVariants.{OutOfRange}
use Rattle.model.specs.keys.Key.{Key, Bytes, max_len, IsPrefix, too_long}
use Rattle.model.specs.keys.Order.{key, BytesE}
use Rattle.model.specs.records.Record.{no_edge, record_size, key_bytes, element, edge_of, record_of, encode, encode_edge, joined}
use Rattle.model.specs.records.Record.{elements, edges, encode_all, encode_edges}
use Rattle.model.specs.inner.Places.{record_at}
use Rattle.model.specs.ranges.RangePrefix.{PivotLcp}
use Rattle.model.specs.tables.Tables.{PivotTable, EdgeTable, max_pivots, pivot_at, edge_at, all, short_element, short_edge, WFPivots, BytesT, slot_prefix}
use Rattle.model.specs.cuts.Cuts.{SplitLeft, SplitRight, SplitLeftEdges, SplitRightEdges}
use Rattle.model.specs.cuts.Sides.{inside, cutoff, Split, SplitEdges}
use Rattle.model.specs.inner.CutSlot.{cut_from, cut_upto, cut_slot_edge, cut_bytes, edge_place}
use Rattle.model.specs.calls.TableCalls.{table_causes}
use Rattle.model.specs.calls.CutCalls.{cut_pivots, cut_edges}
use Rattle.model.specs.calls.TableCalls.{edge_slot_causes}
use Rattle.model.specs.calls.Refusals.{first}
use Rattle.model.proofs.Lists.{all_at, all_append, all_parts}
use Rattle.model.proofs.calls.Refusals.{none_here, none_before, none_after}
use Rattle.model.proofs.records.Record.{length_encode, length-encode_edge}
use Rattle.model.proofs.records.Records.{joined_append, joined_take, joined_drop}
use Rattle.model.proofs.tables.Routing.{wf_keys, wf_short, wf_all_short}
use Rattle.model.proofs.calls.TableCalls.{length_elements, length_edges, element_at, edge_at_lem}
use Rattle.model.proofs.calls.TableCalls.{table_wf, table_most, table_count, table_edges_short, wrong_key}
use Rattle.model.proofs.calls.TableCalls.{table_bytes, table_encode, table_encode_edges}
use Rattle.model.proofs.calls.PivotKeys.{key_element}
use Rattle.model.proofs.cuts.Between.{bytes_at}
use Rattle.model.proofs.tables.Slots.{Table, wf_says, Inside}
use Rattle.model.proofs.cuts.Cuts.{left_slot, right_slot}
use Rattle.model.proofs.cuts.CutEdges.{inside_narrows}
use Rattle.model.proofs.cuts.Preserved.{begins}

-- ---- what a cut makes of a list

-- the first n, and x after them; or x, and after it those from place n on
abbrev cut_list : {A : Type 0} → Bool → ℕ → List A → A → List A
cut_list true n xs x = take n xs ++ (x ∷ [])
cut_list false n xs x = x ∷ drop n xs

-- the pivots are cut so
split_list : (left : Bool) (pt : PivotTable) (k : Key) → Split left pt k ≡ cut_list left (cutoff left pt k + 1) pt (key k)
unfolding SplitLeft SplitRight
split_list true pt k = refl
split_list false pt k = refl

-- the edges are cut as such a list
split_edges_list : (left : Bool) (pt : PivotTable) (et : EdgeTable) (k : Key)
    → SplitEdges left et pt k ≡ cut_list left (edge_place left (cutoff left pt k)) et (cut_slot_edge left pt et k)
unfolding SplitLeftEdges SplitRightEdges
split_edges_list true pt et k = refl
split_edges_list false pt et k = refl

-- the place among the edges is not past the slot's edge
place_most : (left : Bool) (c : ℕ) → edge_place left c ≤ c + 1
place_most true c = omega arith
place_most false c = omega arith

-- among values that pass a test only the new one may fail
cut_all : {A : Type 0} (test : A → Bool) (left : Bool) (n : ℕ) (xs : List A) (x : A) → all test xs ≡ true
    → all test (cut_list left n xs x) ≡ test x
unfolding all
cut_all test true n xs x h = rw (all_append test (take n xs) (x ∷ []), (all_parts test n xs h).0, and-true (test x))
cut_all test false n xs x h = rw ((all_parts test n xs h).1, and-true (test x))

-- their bytes are those of the records kept, with the new record beside them
cut_written : {A : Type 0} (ok : A → Bool) (write : A → List ℕ) → ((x : A) → ok x ≡ true → length (write x) ≡ record_size)
    → (left : Bool) (n : ℕ) (xs : List A) (x : A) (l : List ℕ) → joined (map write xs) ≡ l → n ≤ length xs → all ok xs ≡ true
    → joined (map write (cut_list left n xs x)) ≡ cut_bytes left n l (write x)
unfolding joined
cut_written ok write size true n xs x l e m h =
    rw (joined_append write (take n xs) (x ∷ []), joined_take record_size ok write size n xs m h, e, append-nil (write x))
cut_written ok write size false n xs x l e m h = rw (joined_drop record_size ok write size n xs m h, e)

-- ---- the slot of a cut

-- the range of the cut slot lies in its slot of the table
side_slot : (left : Bool) {pt : PivotTable} (k : Key) → Table pt → inside left pt k ≡ true
    → Inside pt (cutoff left pt k) (cut_from left pt k) (cut_upto left pt k)
side_slot true k t v = left_slot t k v
side_slot false k t v = right_slot t k v

-- its left end is of bytes
side_from : (left : Bool) (pt : PivotTable) (k : Key) → BytesT pt → Bytes k → BytesE (cut_from left pt k)
side_from true pt k b c = bytes_at pt (cutoff true pt k) b
side_from false pt k b c = c

-- the right end of the cut slot's range is of bytes
side_upto : (left : Bool) (pt : PivotTable) (k : Key) → BytesT pt → Bytes k → BytesE (cut_upto left pt k)
side_upto true pt k b c = c
side_upto false pt k b c = bytes_at pt (cutoff false pt k + 1) b

-- the prefix of the right cut's slot begins k
side_begins : (left : Bool) {pt : PivotTable} (k : Key) → Table pt → inside left pt k ≡ true → left ≡ false → Bytes k
    → IsPrefix (slot_prefix pt (cutoff left pt k)) k ≡ true
side_begins true k t v e c = absurd (true≢false e)
side_begins false {pt} k t v e c =
    let w = right_slot t k v in
    begins (pivot_at pt (cutoff false pt k)) (pivot_at pt (cutoff false pt k + 1)) k c w.from w.rises

-- ---- a cut that has none of the causes 1 to 5

module _ (left : Bool) (p e : List ℕ) (k : Key) (h : first (edge_slot_causes p e k (inside left (elements p) k)) ≡ none) where
  -- the table has none of the causes 1 to 4
  pub cut_table : first (table_causes false (too_long k) p e) ≡ none
  cut_table = none_before _ _ h

  -- the key is inside
  pub cut_inside : inside left (elements p) k ≡ true
  cut_inside = not-false (inside left (elements p) k) (none_here _ OutOfRange [] (none_after (table_causes false (too_long k) p e) _ h))

  -- the key has at most 64 bytes
  pub cut_key : length k ≤ max_len
  cut_key = wrong_key false p e k cut_table

  -- the pivots are well formed
  wf : WFPivots (elements p) ≡ true
  wf = table_wf false (too_long k) p e cut_table

  -- each edge is none or has at most 64 bytes
  edges_short : all short_edge (edges e) ≡ true
  edges_short = table_edges_short false (too_long k) p e cut_table

  -- what the cut leaves of its slot lies in it
  slot : Inside (elements p) (cutoff left (elements p) k) (cut_from left (elements p) k) (cut_upto left (elements p) k)
  slot = side_slot left k (wf_says (elements p) wf).table cut_inside

  -- ---- what stands in the slot

  -- there is one edge fewer than pivots
  pub cut_edges_less : length e / record_size + 1 ≡ length p / record_size
  cut_edges_less = rw (← length_edges e, ← length_elements p) (table_count _ _ p e cut_table)

  -- the slot's two pivots are in the table
  pub cut_slot : cutoff left (elements p) k + 1 < length p / record_size
  cut_slot = rw (← length_elements p) slot.slot

  -- the slot's edge is in the table
  pub cut_slot_edge_lem : cutoff left (elements p) k < length e / record_size
  cut_slot_edge_lem = omega (arith, cut_slot, cut_edges_less)

  -- the places of its pivots are small numbers
  pub cut_slot_small : cutoff left (elements p) k + 1 < max_pivots
  cut_slot_small = omega (arith, slot.slot, table_most _ _ p e cut_table)

  pub cut_next_fits : (c : ℕ) → c ≡ cutoff left (elements p) k → Fits w64 (c + 1)
  cut_next_fits c f = record { fits = omega (arith, f, cut_slot_small) }

  -- the slot's first pivot is a key, that of its record
  pub cut_left_key : pivot_at (elements p) (cutoff left (elements p) k) ≡ key (key_bytes (record_at p (cutoff left (elements p) k)))
  cut_left_key =
      let c = cutoff left (elements p) k in
      let r = element_at p c (omega (arith, cut_slot)) in
      let w = wf_keys (elements p) wf c (omega (arith, slot.slot)) in
      r ∙ key_element (record_at p c) (rw r at w)

  -- its second is what its record stands for
  pub cut_right_element : pivot_at (elements p) (cutoff left (elements p) k + 1) ≡ element (record_at p (cutoff left (elements p) k + 1))
  cut_right_element = element_at p (cutoff left (elements p) k + 1) cut_slot

  -- the slot's edge is what its record stands for
  pub cut_old_edge : edge_at (edges e) (cutoff left (elements p) k) ≡ edge_of (record_at e (cutoff left (elements p) k))
  cut_old_edge = edge_at_lem e (cutoff left (elements p) k) cut_slot_edge_lem

  -- the first pivot has at most 64 bytes
  pub cut_left_short : length (key_bytes (record_at p (cutoff left (elements p) k))) ≤ max_len
  cut_left_short =
      let c = cutoff left (elements p) k in
      let w = wf_short (elements p) wf c (omega (arith, slot.slot)) in
      leb-true (length (key_bytes (record_at p c))) max_len (rw cut_left_key at w)

  -- the slot's edge has at most 64 bytes
  pub cut_edge_short : short_edge (edge_of (record_at e (cutoff left (elements p) k))) ≡ true
  cut_edge_short = rw (← cut_old_edge) (all_at short_edge (edges e) (cutoff left (elements p) k) no_edge refl edges_short)

  -- the prefix of the slot begins that of the range that the cut leaves of it
  pub cut_grows : Bytes p → Bytes k
      → IsPrefix (PivotLcp (pivot_at (elements p) (cutoff left (elements p) k)) (pivot_at (elements p) (cutoff left (elements p) k + 1)))
      (PivotLcp (cut_from left (elements p) k) (cut_upto left (elements p) k)) ≡ true
  cut_grows b c = let t = table_bytes _ _ p e cut_table b in inside_narrows slot (side_from left (elements p) k t c) (side_upto left (elements p) k t c)

  -- on the right, and where a key is translated, it begins the key
  pub cut_begins : left ≡ false → Bytes k
      → IsPrefix (PivotLcp (pivot_at (elements p) (cutoff left (elements p) k)) (pivot_at (elements p) (cutoff left (elements p) k + 1))) k ≡ true
  cut_begins f c = side_begins left k (wf_says (elements p) wf).table cut_inside f c

  -- ---- what is written

  -- the pivots kept are in the table
  kept_pivots : cutoff left (elements p) k + 1 ≤ length (elements p)
  kept_pivots = omega (arith, slot.slot)

  -- the edges kept are in the table
  kept_edges : edge_place left (cutoff left (elements p) k) ≤ length (edges e)
  kept_edges = omega (arith, place_most left (cutoff left (elements p) k), slot.slot, table_count _ _ p e cut_table)

  -- beside short edges only the cut one may be long
  pub cut_short : all short_edge (cut_edges left p e k) ≡ short_edge (cut_slot_edge left (elements p) (edges e) k)
  cut_short = rw (split_edges_list left (elements p) (edges e) k) (cut_all short_edge left _ (edges e) _ edges_short)

  -- no pivot of the cut is long: the key is short too
  pub cut_pivots_short : all short_element (cut_pivots left p k) ≡ true
  cut_pivots_short =
      rw (split_list left (elements p) k) (cut_all short_element left _ (elements p) (key k) (wf_all_short (elements p) wf) ∙ le-leb (length k) max_len cut_key)

  -- the pivots written are the records kept and that of k
  pub cut_pivots_bytes : Bytes p
      → encode_all (cut_pivots left p k) ≡ cut_bytes left (cutoff left (elements p) k + 1) p (record_of (length k) k)
  unfolding encode_all encode
  cut_pivots_bytes b =
      rw (split_list left (elements p) k)
      (cut_written short_element encode length_encode left _ (elements p) (key k) p (table_encode _ _ p e cut_table b) kept_pivots
      (wf_all_short (elements p) wf))

  -- the edges written are the records kept and that of the cut edge
  pub cut_edges_bytes : Bytes e
      → encode_edges (cut_edges left p e k)
      ≡ cut_bytes left (edge_place left (cutoff left (elements p) k)) e (encode_edge (cut_slot_edge left (elements p) (edges e) k))
  unfolding encode_edges
  cut_edges_bytes b =
      rw (split_edges_list left (elements p) (edges e) k)
      (cut_written short_edge encode_edge length-encode_edge left _ (edges e) _ e (table_encode_edges _ _ p e cut_table b) kept_edges
      edges_short)
