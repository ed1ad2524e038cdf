-- A well-formed table, written as records, has none of the causes 1 to 4, and its pivots are bytes.
use mathlib.Core.Path.{◌≡◌, refl, sym}
use mathlib.Core.Bool.{Bool, true, false, false≢true}
use mathlib.Core.List.{List, [], ◌∷◌, map}
use mathlib.Core.Option.{none, some}
use Prim.Native.Nat.{ℕ, zero, suc, ◌+◌, ◌-◌, ◌/◌, ◌%◌, ◌≤◌}
use native.Mathlib.Omega.{arith}
use borrow.Author.Tests.{leb-true, le-leb, eq-eqb}
use lib.ListN.{length}
use lib.Seq.{take_at, drop_at}
use Rattle.model.specs.keys.Key.{Key, Bytes, max_len}
use Rattle.model.specs.keys.Order.{Element, key, max, lt, BytesE}
use Rattle.model.specs.records.Record.{Edge, edge, no_edge, record_size, reading, key_reading, element_reading, edge_reading}
use Rattle.model.specs.records.Record.{pieces, joined, records, max_mark, zeros, record_of, encode, encode_edge, encode_all, encode_edges}
use Rattle.model.specs.tables.Tables.{PivotTable, EdgeTable, min_pivots, max_pivots, all, short_element, short_edge, IsStrictlySorted, WFPivots, WFEdges, BytesT}
use Rattle.model.specs.calls.Refusals.{outcome, first}
use Rattle.model.specs.calls.TableCalls.{not_pivot_count, not_edge_count, pivots_read, edges_read, pivot_causes, table_causes}
use Rattle.model.proofs.calls.Refusals.{after}
use Rattle.model.proofs.keys.Order.{below_key}
use Rattle.model.proofs.tables.Places.{sorted_head, sorted_tail}
use Rattle.model.proofs.keys.Key.{both, bytes_append}
use Rattle.model.proofs.records.Record.{reading_key, reading_max, reading-no_edge, length_encode, length-encode_edge}
use Rattle.model.proofs.records.Records.{length-encode_all, length-encode_edges, elements-encode_all, edges-encode_edges}
use Rattle.model.proofs.tables.Routing.{wf_sorted, wf_count, wf_all_short}
use Rattle.model.proofs.cuts.CutEdges.{edges_say}

-- the pieces of what is written one after the other, each in s bytes, are what is written
module _ {A : Type 0} (s : ℕ) (ok : A → Bool) (write : A → List ℕ) (size : (x : A) → ok x ≡ true → length (write x) ≡ s) where
  pub pieces_written : (xs : List A) → all ok xs ≡ true → pieces s (length xs) (joined (map write xs)) ≡ map write xs
  unfolding pieces joined all
  pieces_written [] h = refl
  pieces_written (x ∷ xs) h =
      let b = both (ok x) (all ok xs) h in
      let l = size x b.0 in
      rw (take_at (write x) (joined (map write xs)) s l, drop_at (write x) (joined (map write xs)) s l, pieces_written xs b.1)

-- ---- pivots

-- the record of an element is read as one
element_reads : (e : Element) → short_element e ≡ true → element_reading (reading (encode e)) ≡ true
element_reads (key k) h = rw (reading_key k (leb-true (length k) max_len h))
element_reads max h = rw reading_max

-- the record of an element below another is read as a key
key_reads : (e f : Element) → short_element e ≡ true → lt e f ≡ true → key_reading (reading (encode e)) ≡ true
key_reads (key k) f h l = rw (reading_key k (leb-true (length k) max_len h))
key_reads max f h l = absurd (false≢true (below_key max f l))

-- the records of pivots that rise strictly, none too long, are read as pivots
pivots_read_lem : (pt : PivotTable) → IsStrictlySorted pt ≡ true → all short_element pt ≡ true → pivots_read (map encode pt) ≡ true
unfolding pivots_read all
pivots_read_lem [] s h = refl
pivots_read_lem (e ∷ []) s h = rw (element_reads e (both (short_element e) true h).0)
pivots_read_lem (e ∷ f ∷ pt) s h =
    let b = both (short_element e) (all short_element (f ∷ pt)) h in
    rw (key_reads e f b.0 (sorted_head e f pt s)) (pivots_read_lem (f ∷ pt) (sorted_tail e (f ∷ pt) s) b.1)

-- the records of written pivots
pub records-encode_all : (pt : PivotTable) → all short_element pt ≡ true → records (encode_all pt) ≡ map encode pt
unfolding records encode_all
records-encode_all pt h =
    let n : length (encode_all pt) / record_size ≡ length pt = omega (arith, length-encode_all pt h) in
    rw n (pieces_written record_size short_element encode length_encode pt h)

-- their count is right
encoded_count : (pt : PivotTable) → all short_element pt ≡ true → 2 ≤ length pt → length pt ≤ max_pivots → not_pivot_count (encode_all pt) ≡ false
unfolding not_pivot_count
encoded_count pt h k m =
    let n : length (encode_all pt) / record_size ≡ length pt = omega (arith, length-encode_all pt h) in
    let r : length (encode_all pt) % record_size ≡ 0 = omega (arith, length-encode_all pt h) in
    rw (n, r, le-leb min_pivots (length pt) k, le-leb (length pt) max_pivots m)

-- written pivots of a well-formed table have none of the causes
pub wf_causes : (pt : PivotTable) → WFPivots pt ≡ true → length pt ≤ max_pivots → first (pivot_causes false false (encode_all pt)) ≡ none
unfolding pivot_causes outcome
wf_causes pt w m =
    let s = wf_sorted pt w in
    let h = wf_all_short pt w in
    rw (encoded_count pt h (wf_count pt w) m, records-encode_all pt h, pivots_read_lem pt s h, elements-encode_all pt h, s)

-- the record of a key of bytes is of bytes
record_bytes : (n : ℕ) (k : Key) → n ≤ max_mark → Bytes k → Bytes (record_of n k)
unfolding record_of
record_bytes n k h b = (omega arith, (omega arith, bytes_append k _ b (go (max_len - length k))))
  where
    go : (m : ℕ) → Bytes (zeros m)
    go zero = tt
    go (suc m) = (omega arith, go m)

-- written pivots of bytes are bytes
pub bytes-encode_all : (pt : PivotTable) → all short_element pt ≡ true → BytesT pt → Bytes (encode_all pt)
unfolding encode_all joined encode all
bytes-encode_all [] h b = tt
bytes-encode_all (e ∷ pt) h b =
    let c = both (short_element e) (all short_element pt) h in
    bytes_append (encode e) (encode_all pt) (go e c.0 b.0) (bytes-encode_all pt c.1 b.1)
  where
    go : (e : Element) → short_element e ≡ true → BytesE e → Bytes (encode e)
    go (key k) h b = record_bytes (length k) k (omega (arith, leb-true (length k) max_len h)) b
    go max h b = record_bytes max_mark [] (omega arith) tt

-- ---- edges

-- the record of an edge is read as one
edge_reads : (e : Edge) → short_edge e ≡ true → edge_reading (reading (encode_edge e)) ≡ true
unfolding encode encode_edge
edge_reads (edge k) h = rw (reading_key k (leb-true (length k) max_len h))
edge_reads no_edge h = rw reading-no_edge

-- the records of several edges are read as edges
edges_read_lem : (et : EdgeTable) → all short_edge et ≡ true → edges_read (map encode_edge et) ≡ true
unfolding edges_read all
edges_read_lem [] h = refl
edges_read_lem (e ∷ et) h =
    let b = both (short_edge e) (all short_edge et) h in
    rw (edge_reads e b.0) (edges_read_lem et b.1)

-- the records of written edges
pub records-encode_edges : (et : EdgeTable) → all short_edge et ≡ true → records (encode_edges et) ≡ map encode_edge et
unfolding records encode_edges
records-encode_edges et h =
    let n : length (encode_edges et) / record_size ≡ length et = omega (arith, length-encode_edges et h) in
    rw n (pieces_written record_size short_edge encode_edge length-encode_edge et h)

module _ (pt : PivotTable) (et : EdgeTable) (w : WFPivots pt ≡ true) (m : length pt ≤ max_pivots) (x : WFEdges et pt ≡ true)
    (s : all short_edge et ≡ true) where
  -- the edges written are one fewer than the pivots
  written_count : not_edge_count (encode_all pt) (encode_edges et) ≡ false
  unfolding not_edge_count
  written_count =
      rw (eq-eqb (length (encode_edges et) + record_size) (length (encode_all pt))
      (omega (arith, length-encode_all pt (wf_all_short pt w), length-encode_edges et s, (edges_say et pt x).count)))

  -- a well-formed table, written, has none of the causes
  pub wf_table_causes : (wrong : Bool) → wrong ≡ false → first (table_causes false wrong (encode_all pt) (encode_edges et)) ≡ none
  unfolding table_causes outcome
  wf_table_causes wrong f =
      sym (after some none none (pivot_causes _ _ (encode_all pt)) _
      (rw (written_count, f, records-encode_edges et s, edges_read_lem et s) (wf_causes pt w m))
      (rw (edges-encode_edges et s, elements-encode_all pt (wf_all_short pt w), x)))
