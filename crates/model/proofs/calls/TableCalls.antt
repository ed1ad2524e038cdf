-- Tables by their bytes: the record at a place and what it stands for, and what is known of pivots and edges that have none of the causes 1 to 4.
use Rattle.std.specs.Prelude.{Result, Ok}
use Rattle.model.specs.declared.Refusal.{Refusal}
use mathlib.Core.Path.{◌≡◌, refl, ◌∙◌}
use mathlib.Core.Bool.{Bool, true, false, cond, not, ◌&&◌, ◌||◌, true≢false}
use mathlib.Core.List.{List, [], ◌∷◌, map}
use mathlib.Core.Option.{none, some}
use Prim.Native.Nat.{ℕ, zero, suc, ◌+◌, ◌*◌, ◌/◌, ◌%◌, ◌≤◌, ◌<◌}
use native.Mathlib.Omega.{arith}
use borrow.Author.Tests.{eqb-true, le-ltb, ltb-false, leb-true, not-false}
use lib.Dec.{eqb, leb}
use lib.ListN.{length, take, drop, length-map, length-drop}
use lib.Seq.{length-take-le}
use Rattle.model.specs.declared.Reading.{Reading}
use Rattle.model.specs.declared.Reading.TheVariants as reads
use Rattle.model.specs.declared.Refusal.TheVariants.{Shape, Malformed, Unsorted, EmptyPrefix}
use Rattle.model.specs.keys.Key.{Key, Bytes, is_nil, max_len, too_long}
use Rattle.model.specs.keys.Order.{key, max, BytesE}
use Rattle.model.specs.records.Record.{record_size, element, edge_of, pieces, records, elements, edges, encode_all, encode_edges}
use Rattle.model.specs.inner.Places.{record_at}
use Rattle.model.specs.records.Record.{max_mark, length_field, key_bytes, reading, key_reading, element_reading}
use Rattle.model.specs.tables.Tables.{min_pivots, max_pivots, pivot_at, edge_at, all, short_element, short_edge, IsStrictlySorted, WFPivots, WFEdges, BytesT}
use Rattle.model.specs.calls.TableCalls.{not_pivot_count, not_edge_count, pivots_read, edges_read, edges_stand, pivot_causes, table_causes}
use Rattle.model.specs.calls.Refusals.{outcome, first, answer}
use Rattle.model.proofs.calls.Refusals.{none_here, none_later, none_before, none_after, accepted}
use Rattle.model.proofs.Lists.{get_d_map, all_map}
use Rattle.model.proofs.keys.Key.{both, bytes_take, bytes_drop}
use Rattle.model.proofs.records.Record.{short_element_lem, short_edge_lem}
use Rattle.model.proofs.records.Records.{length_pieces, piece_at, encode_all-elements, encode_edges-edges}
use Rattle.model.proofs.tables.Routing.{wf_of}

module _ (p : List ℕ) where
  -- the count of records, of pivots and of edges is the slice's length over 66
  pub length_records : length (records p) ≡ length p / record_size
  unfolding records
  length_records = length_pieces record_size (length p / record_size) p

  pub length_elements : length (elements p) ≡ length p / record_size
  unfolding elements
  length_elements = length-map (records p) element ∙ length_records

  pub length_edges : length (edges p) ≡ length p / record_size
  unfolding edges
  length_edges = length-map (records p) edge_of ∙ length_records

  module _ (i : ℕ) (h : i < length p / record_size) where
    inside : i < length (records p)
    inside = rw length_records h

    -- the record at a place has 66 bytes
    pub record_length : length (record_at p i) ≡ record_size
    unfolding records
    record_length =
        rw (piece_at record_size (length p / record_size) i p h)
        (length-take-le record_size (drop (i * record_size) p) (omega (arith, length-drop (i * record_size) p)))

    -- a pivot is what the record at its place stands for
    pub element_at : pivot_at (elements p) i ≡ element (record_at p i)
    unfolding elements
    element_at = get_d_map element (records p) i _ [] inside

    -- an edge is what the record at its place stands for
    pub edge_at_lem : edge_at (edges p) i ≡ edge_of (record_at p i)
    unfolding edges
    edge_at_lem = get_d_map edge_of (records p) i _ [] inside

-- what a record of bytes stands for is of bytes
bytes_element : (r : List ℕ) → Bytes r → BytesE (element r)
unfolding element key_bytes
bytes_element r b = go (eqb (length_field r) max_mark)
  where
    go : (t : Bool) → BytesE (cond t max (key (take (length_field r) (drop 2 r))))
    go true = tt
    go false = bytes_take (length_field r) (drop 2 r) (bytes_drop 2 r b)

-- pivots read from bytes are of bytes
bytes_elements : (n : ℕ) (l : List ℕ) → Bytes l → BytesT (map element (pieces record_size n l))
unfolding pieces
bytes_elements zero l b = tt
bytes_elements (suc n) l b = (bytes_element (take record_size l) (bytes_take record_size l b), bytes_elements n (drop record_size l) (bytes_drop record_size l b))

-- ---- pivots that have none of the causes 1 to 3

-- a reading that fits a pivot fits an element
pivot_reading : (rs : List (List ℕ)) (v : Reading) → cond (is_nil rs) (element_reading v) (key_reading v) ≡ true → element_reading v ≡ true
pivot_reading [] v h = h
pivot_reading (r ∷ rs) (reads.Key n) h = refl
pivot_reading (r ∷ rs) reads.Malformed h = h
pivot_reading (r ∷ rs) reads.NoEdge h = h
pivot_reading (r ∷ rs) reads.Max h = refl

-- records that are read as pivots are each read as an element
pub read_elements : (rs : List (List ℕ)) → pivots_read rs ≡ true → all (λ (r : List ℕ). element_reading (reading r)) rs ≡ true
unfolding pivots_read all
read_elements [] h = refl
read_elements (r ∷ rs) h =
    let b = both (cond (is_nil rs) (element_reading (reading r)) (key_reading (reading r))) (pivots_read rs) h in
    rw (pivot_reading rs (reading r) b.0) (read_elements rs b.1)

-- a disjunction that fails, fails on both sides
pub either_fails : (a b : Bool) → (a || b) ≡ false → (a ≡ false) × (b ≡ false)
either_fails true b h = absurd (true≢false h)
either_fails false b h = (refl, h)

module _ (shape wrong : Bool) (p : List ℕ) (h : first (pivot_causes shape wrong p) ≡ none) where
  -- cause 1 does not apply
  shape_fails : (shape ≡ false) × (not_pivot_count p ≡ false)
  unfolding pivot_causes
  shape_fails = either_fails shape (not_pivot_count p) (none_here (shape || not_pivot_count p) Shape _ h)

  -- nor does cause 2
  wrong_fails : (wrong ≡ false) × (not (pivots_read (records p)) ≡ false)
  unfolding pivot_causes
  wrong_fails = either_fails wrong (not (pivots_read (records p))) (none_here _ Malformed _ (none_later (shape || not_pivot_count p) Shape _ h))

  -- no other argument has cause 1
  pub causes_shape : shape ≡ false
  causes_shape = shape_fails.0

  -- nor cause 2
  pub causes_wrong : wrong ≡ false
  causes_wrong = wrong_fails.0

  -- the count of the pivots is right
  pub causes_counted : not_pivot_count p ≡ false
  causes_counted = shape_fails.1

  counted : (eqb (length p % record_size) 0 && leb min_pivots (length p / record_size) && leb (length p / record_size) max_pivots) ≡ true
  unfolding not_pivot_count
  counted = not-false _ causes_counted

  -- the records are read as pivots
  pub causes_read : pivots_read (records p) ≡ true
  causes_read = not-false (pivots_read (records p)) wrong_fails.1

  -- the pivots rise strictly
  pub causes_sorted : IsStrictlySorted (elements p) ≡ true
  unfolding pivot_causes
  causes_sorted =
      not-false (IsStrictlySorted (elements p))
      (none_here _ Unsorted _ (none_later (wrong || not (pivots_read (records p))) Malformed _ (none_later (shape || not_pivot_count p) Shape _ h)))

  count : (length p % record_size ≡ 0) × (min_pivots ≤ length p / record_size) × (length p / record_size ≤ max_pivots)
  count =
      let a = both (eqb (length p % record_size) 0 && leb min_pivots (length p / record_size)) (leb (length p / record_size) max_pivots) counted in
      let b = both (eqb (length p % record_size) 0) (leb min_pivots (length p / record_size)) a.0 in
      (eqb-true (length p % record_size) 0 b.0, leb-true min_pivots (length p / record_size) b.1, leb-true (length p / record_size) max_pivots a.1)

  -- the bytes are whole records
  pub causes_whole : length p ≡ length (elements p) * record_size
  causes_whole = let c = count in rw (length_elements p) (omega arith)

  -- there are at least two pivots
  pub causes_least : 2 ≤ length (elements p)
  causes_least = let c = count in rw (length_elements p) (omega arith)

  -- there are at most 64 pivots
  pub causes_most : length (elements p) ≤ max_pivots
  causes_most = let c = count in rw (length_elements p) (omega arith)

  -- the pivots' records are the bytes
  pub causes_encode : Bytes p → encode_all (elements p) ≡ p
  causes_encode b = encode_all-elements p (length (elements p)) b causes_whole (read_elements (records p) causes_read)

  -- the pivots are well formed
  pub causes_wf : WFPivots (elements p) ≡ true
  causes_wf = wf_of (elements p) causes_sorted (unfold elements in short) causes_least
    where
      short : all short_element (map element (records p)) ≡ true
      short = all_map _ element short_element short_element_lem (records p) (read_elements (records p) causes_read)

-- pivots whose check is passed are well formed
pub checked_wf : (shape wrong : Bool) (p : List ℕ) (n m : ℕ) (x : Result ℕ Refusal) → x ≡ answer (pivot_causes shape wrong p) n → x ≡ Ok m
    → WFPivots (elements p) ≡ true
checked_wf shape wrong p n m x e h = causes_wf shape wrong p (accepted (pivot_causes shape wrong p) n x e m h)

-- ---- pivots and edges that have none of the causes 1 to 4

module _ (shape wrong : Bool) (p e : List ℕ) (h : first (table_causes shape wrong p e) ≡ none) where
  -- the pivots have none of the causes 1 to 3
  pub table_pivots : first (pivot_causes (shape || not_edge_count p e) (wrong || not (edges_read (records e))) p) ≡ none
  unfolding table_causes
  table_pivots = none_before _ _ h

  -- they are well formed
  pub table_wf : WFPivots (elements p) ≡ true
  table_wf = causes_wf _ _ p table_pivots

  -- their bytes are whole records
  pub table_whole : length p ≡ length (elements p) * record_size
  table_whole = causes_whole _ _ p table_pivots

  -- there are at most 64
  pub table_most : length (elements p) ≤ max_pivots
  table_most = causes_most _ _ p table_pivots

  -- the edges stand on them
  pub table_edges : WFEdges (edges e) (elements p) ≡ true
  unfolding table_causes
  table_edges =
      let cs = pivot_causes (shape || not_edge_count p e) (wrong || not (edges_read (records e))) p in
      not-false (edges_stand p e) (none_here _ EmptyPrefix [] (none_after cs _ h))

  -- the edges' bytes are one record fewer
  fewer : length e + record_size ≡ length p
  unfolding not_edge_count
  fewer =
      eqb-true (length e + record_size) (length p)
      (not-false _ (either_fails shape (not_edge_count p e) (causes_shape _ _ p table_pivots)).1)

  -- there is one edge fewer than pivots
  pub table_count : length (edges e) + 1 ≡ length (elements p)
  table_count = let w = table_whole in let f = fewer in rw (length_edges e) (omega arith)

  -- the edges' bytes are whole records
  pub table_edges_whole : length e ≡ length (edges e) * record_size
  table_edges_whole = let w = table_whole in let f = fewer in rw (length_edges e) (omega arith)

  -- cause 2 applies neither to another argument nor to the edges
  edges_right : (wrong ≡ false) × (not (edges_read (records e)) ≡ false)
  edges_right = either_fails wrong (not (edges_read (records e))) (causes_wrong _ _ p table_pivots)

  -- no other argument has cause 2
  pub table_wrong : wrong ≡ false
  table_wrong = edges_right.0

  -- the records are read as edges
  pub table_edges_read : edges_read (records e) ≡ true
  table_edges_read = not-false (edges_read (records e)) edges_right.1

  -- each edge is none or has at most 64 bytes
  pub table_edges_short : all short_edge (edges e) ≡ true
  unfolding edges edges_read
  table_edges_short = all_map _ edge_of short_edge short_edge_lem (records e) table_edges_read

  -- the pivots are of bytes
  pub table_bytes : Bytes p → BytesT (elements p)
  unfolding elements records
  table_bytes b = bytes_elements (length p / record_size) p b

  -- the pivots' records are the bytes
  pub table_encode : Bytes p → encode_all (elements p) ≡ p
  table_encode = causes_encode _ _ p table_pivots

  -- the edges' records are the bytes
  pub table_encode_edges : Bytes e → encode_edges (edges e) ≡ e
  unfolding edges_read
  table_encode_edges b = encode_edges-edges e (length (edges e)) b table_edges_whole table_edges_read

-- a key that comes with a table and is not refused has at most 64 bytes
pub wrong_key : (shape : Bool) (p e : List ℕ) (k : Key) → first (table_causes shape (too_long k) p e) ≡ none → length k ≤ max_len
wrong_key shape p e k h = ltb-false max_len (length k) (table_wrong shape (too_long k) p e h)

-- pivots of a table whose check is passed are well formed
pub table_checked_wf : (shape wrong : Bool) (p e : List ℕ) (n m : ℕ) (x : Result ℕ Refusal) → x ≡ answer (table_causes shape wrong p e) n → x ≡ Ok m
    → WFPivots (elements p) ≡ true
table_checked_wf shape wrong p e n m x f h = table_wf shape wrong p e (accepted (table_causes shape wrong p e) n x f m h)

-- ---- beside a table without causes 1 to 4: the arguments that come with it

-- its counts are right
table_counts : (p e : List ℕ) → first (table_causes false false p e) ≡ none → (not_edge_count p e || not_pivot_count p) ≡ false
unfolding pivot_causes
table_counts p e h = none_here _ Shape _ (table_pivots false false p e h)

-- beside such a table an argument that is wrong would be the first cause
pub wrong_first : (wrong : Bool) (p e : List ℕ) → first (table_causes false false p e) ≡ none
    → first (table_causes false wrong p e) ≡ cond wrong (some Malformed) none
unfolding table_causes pivot_causes outcome
wrong_first true p e h = rw (table_counts p e h)
wrong_first false p e h = h

-- a key of at most 64 bytes is not too long
pub not_too_long : (k : Key) → length k ≤ max_len → too_long k ≡ false
not_too_long k h = le-ltb max_len (length k) h
