-- What is encoded reads back, and what reads as a key, max or no edge is the encoding of it: a record has one reading and a value one record.
use mathlib.Core.Path.{◌≡◌, refl, sym, ap, ◌∙◌}
use mathlib.Core.Bool.{Bool, true, false, cond, ◌||◌, false≢true}
use mathlib.Core.List.{List, [], ◌∷◌}
use Prim.Native.Nat.{ℕ, zero, suc, ◌+◌, ◌-◌, ◌/◌, ◌%◌, ◌≤◌}
use native.Mathlib.Omega.{arith}
use borrow.Author.Tests.{eqb-true, leb-true, le-leb, ne_eqb}
use lib.Dec.{eqb, leb}
use lib.ListN.{length, take, drop, length-append, length-take, length-drop, length-replicate, take-append-drop}
use lib.Seq.{length-take-le, drop-drop, take-append_seam, drop-append_seam}
use Rattle.model.specs.declared.Reading.{Reading}
use Rattle.model.specs.declared.Reading.TheVariants as reads
use Rattle.model.specs.declared.EdgeKind.{EdgeKind}
use Rattle.model.specs.declared.EdgeKind.TheVariants as kinds
use Rattle.model.specs.keys.Key.{Key, Bytes, max_len}
use Rattle.model.specs.keys.Order.{Element, key, max}
use Rattle.model.specs.records.Record.{Edge, edge, no_edge, record_size, no_edge_mark, max_mark, zeros, record_of, encode, encode_edge}
use Rattle.model.specs.records.Record.{length_field, all_zero, key_length, field_reading, reading, element_reading, edge_reading}
use Rattle.model.specs.records.Record.{key_bytes, element, edge_of}
use Rattle.model.specs.inner.EdgeKinds.{kind_of, edge_kind}
use Rattle.model.specs.tables.Tables.{short_element, short_edge}
use Rattle.model.proofs.keys.Key.{both}

-- ---- zeros

-- zeros are all zero
pub all_zero-zeros : (n : ℕ) → all_zero (zeros n) ≡ true
unfolding all_zero
all_zero-zeros zero = refl
all_zero-zeros (suc n) = all_zero-zeros n

-- what is all zero is zeros
pub zeros_of : (l : List ℕ) → all_zero l ≡ true → l ≡ zeros (length l)
unfolding all_zero
zeros_of [] e = refl
zeros_of (b ∷ l) e =
    let p = both (eqb b 0) (all_zero l) e in
    cc (eqb-true b 0 p.0, zeros_of l p.1)

-- ---- what is written

-- a record has 66 bytes
pub length_record : (n : ℕ) (k : Key) → length k ≤ max_len → length (record_of n k) ≡ record_size
unfolding record_of
length_record n k h = simp (length-append, length-replicate) (omega arith)

-- a record's length field reads back
pub field_record : (n : ℕ) (k : Key) → length_field (record_of n k) ≡ n
unfolding length_field record_of
field_record n k = omega arith

-- its key bytes read back
pub bytes_record : (k : Key) → key_bytes (record_of (length k) k) ≡ k
unfolding key_bytes
bytes_record k = rw (field_record (length k) k) (unfold record_of in take-append_seam k _)

-- after a record's key all is zero
pub tail_record : (n : ℕ) (k : Key) → all_zero (drop (2 + length k) (record_of n k)) ≡ true
unfolding record_of
tail_record n k = rw (← drop-drop (length k) 2 (record_of n k), drop-append_seam k (zeros (max_len - length k)), all_zero-zeros)

-- a record is read as its length field is, where this field counts the key's bytes
reading_record : (n : ℕ) (k : Key) → key_length (field_reading n) ≡ length k → reading (record_of n k) ≡ field_reading n
unfolding reading
reading_record n k h = rw (field_record n k, h, tail_record n k)

-- the record of a key reads as a key of its length
pub reading_key : (k : Key) → length k ≤ max_len → reading (encode (key k)) ≡ reads.Key (length k)
unfolding encode
reading_key k h =
    let e : field_reading (length k) ≡ reads.Key (length k) = unfold field_reading in rw (le-leb (length k) max_len h) in
    rw (reading_record (length k) k (rw e)) e

-- the record of max reads as max
pub reading_max : reading (encode max) ≡ reads.Max
unfolding encode field_reading
reading_max = reading_record max_mark [] refl

-- the record of no edge reads as no edge
pub reading-no_edge : reading (encode_edge no_edge) ≡ reads.NoEdge
unfolding encode_edge field_reading
reading-no_edge = reading_record no_edge_mark [] refl

-- the record of an element has 66 bytes
pub length_encode : (e : Element) → short_element e ≡ true → length (encode e) ≡ record_size
unfolding encode
length_encode (key k) h = length_record (length k) k (leb-true (length k) max_len h)
length_encode max h = length_record max_mark [] (omega arith)

-- the record of an edge has 66 bytes
pub length-encode_edge : (e : Edge) → short_edge e ≡ true → length (encode_edge e) ≡ record_size
unfolding encode_edge
length-encode_edge (edge k) h = length_record (length k) k (leb-true (length k) max_len h)
length-encode_edge no_edge h = length_record no_edge_mark [] (omega arith)

-- an element reads back from its record
pub element_encode : (e : Element) → short_element e ≡ true → element (encode e) ≡ e
unfolding element encode
element_encode (key k) h =
    let l = leb-true (length k) max_len h in
    rw (field_record (length k) k, ne_eqb (length k) max_mark (λ e. omega arith), bytes_record k)
element_encode max h = rw (field_record max_mark [])

-- an edge reads back from its record
pub edge_encode : (e : Edge) → short_edge e ≡ true → edge_of (encode_edge e) ≡ e
unfolding edge_of encode_edge
edge_encode (edge k) h =
    let l = leb-true (length k) max_len h in
    rw (field_record (length k) k, ne_eqb (length k) no_edge_mark (λ e. omega arith), bytes_record k)
edge_encode no_edge h = rw (field_record no_edge_mark [])

-- elements with one record are one element
pub encode_inj : (a b : Element) → short_element a ≡ true → short_element b ≡ true → encode a ≡ encode b → a ≡ b
encode_inj a b h k e = sym (element_encode a h) ∙ ap element e ∙ element_encode b k

-- ---- what is read

-- the length field is f, and all is zero after the first n of at most 64 bytes that follow it
pub record Read (r : List ℕ) (f n : ℕ) : Type 0 where
  pub field : length_field r ≡ f
  pub short : n ≤ max_len
  pub tail : all_zero (drop (2 + n) r) ≡ true

-- a key, max or no edge; and the length field that is read so
abbrev well_read : Reading → Bool
well_read v = element_reading v || edge_reading v

abbrev field_of : Reading → ℕ
field_of (reads.Key n) = n
field_of reads.Malformed = 0
field_of reads.NoEdge = no_edge_mark
field_of reads.Max = max_mark

field_read : (f : ℕ) → well_read (field_reading f) ≡ true → (f ≡ field_of (field_reading f)) × (key_length (field_reading f) ≤ max_len)
unfolding field_reading
field_read f = go (leb f max_len) (eqb f no_edge_mark) (eqb f max_mark) refl refl refl
  where
    of : Bool → Bool → Bool → Reading
    of a b c = cond a (reads.Key f) (cond b reads.NoEdge (cond c reads.Max reads.Malformed))

    go : (a b c : Bool) → leb f max_len ≡ a → eqb f no_edge_mark ≡ b → eqb f max_mark ≡ c
        → well_read (of a b c) ≡ true → (f ≡ field_of (of a b c)) × (key_length (of a b c) ≤ max_len)
    go true b c p q s h = (refl, leb-true f max_len p)
    go false true c p q s h = (eqb-true f no_edge_mark q, omega arith)
    go false false true p q s h = (eqb-true f max_mark s, omega arith)
    go false false false p q s h = absurd (false≢true h)

well_read_lem : (r : List ℕ) → well_read (reading r) ≡ true → Read r (field_of (reading r)) (key_length (reading r))
unfolding reading
well_read_lem r = go (all_zero (drop (2 + key_length v) r)) refl
  where
    v : Reading
    v = field_reading (length_field r)

    go : (t : Bool) → all_zero (drop (2 + key_length v) r) ≡ t → well_read (cond t v reads.Malformed) ≡ true
        → Read r (field_of (cond t v reads.Malformed)) (key_length (cond t v reads.Malformed))
    go true e h = let w = field_read (length_field r) h in record { field = w.0; short = w.1; tail = e }
    go false e h = absurd (false≢true h)

-- what is read as a key of n bytes has the length field n and zeros after its n bytes
pub key_read : (r : List ℕ) (n : ℕ) → reading r ≡ reads.Key n → Read r n n
key_read r n e = rw e at (well_read_lem r (rw e))

-- what is read as max has its mark and 64 zeros
pub max_read : (r : List ℕ) → reading r ≡ reads.Max → Read r max_mark 0
max_read r e = rw e at (well_read_lem r (rw e))

-- what is read as no edge has its mark and 64 zeros
pub none_read : (r : List ℕ) → reading r ≡ reads.NoEdge → Read r no_edge_mark 0
none_read r e = rw e at (well_read_lem r (rw e))

-- what holds of the key of a record and of max holds of what the record stands for
pub element_cases : (P : Element → Type 0) (r : List ℕ) → element_reading (reading r) ≡ true
    → ((n : ℕ) → Read r n n → P (key (key_bytes r))) → (Read r max_mark 0 → P max) → P (element r)
unfolding element
element_cases P r h f g = go (reading r) refl h
  where
    go : (v : Reading) → reading r ≡ v → element_reading v ≡ true → P (cond (eqb (length_field r) max_mark) max (key (key_bytes r)))
    go (reads.Key n) e h = let w = key_read r n e in rw (ne_eqb (length_field r) max_mark (λ q. omega arith)) (f n w)
    go reads.Malformed e h = absurd (false≢true h)
    go reads.NoEdge e h = absurd (false≢true h)
    go reads.Max e h = let w = max_read r e in rw w.field (g w)

-- what holds of the edge of a record and of no edge holds of what the record stands for
pub edge_cases : (P : Edge → Type 0) (r : List ℕ) → edge_reading (reading r) ≡ true
    → ((n : ℕ) → Read r n n → P (edge (key_bytes r))) → (Read r no_edge_mark 0 → P no_edge) → P (edge_of r)
unfolding edge_of
edge_cases P r h f g = go (reading r) refl h
  where
    go : (v : Reading) → reading r ≡ v → edge_reading v ≡ true → P (cond (eqb (length_field r) no_edge_mark) no_edge (edge (key_bytes r)))
    go (reads.Key n) e h = let w = key_read r n e in rw (ne_eqb (length_field r) no_edge_mark (λ q. omega arith)) (f n w)
    go reads.Malformed e h = absurd (false≢true h)
    go reads.NoEdge e h = let w = none_read r e in rw w.field (g w)
    go reads.Max e h = absurd (false≢true h)

-- the key bytes that are read are at most 64
short_bytes : (r : List ℕ) (n : ℕ) → Read r n n → leb (length (key_bytes r)) max_len ≡ true
unfolding key_bytes
short_bytes r n w = le-leb (length (key_bytes r)) max_len (rw length-take (omega arith))

-- an element that is read is max or has at most 64 bytes
pub short_element_lem : (r : List ℕ) → element_reading (reading r) ≡ true → short_element (element r) ≡ true
short_element_lem r h = element_cases (λ e. short_element e ≡ true) r h (short_bytes r) (λ w. refl)

-- an edge that is read is none or has at most 64 bytes
pub short_edge_lem : (r : List ℕ) → edge_reading (reading r) ≡ true → short_edge (edge_of r) ≡ true
short_edge_lem r h = edge_cases (λ e. short_edge e ≡ true) r h (short_bytes r) (λ w. refl)

-- a record is its length field, the bytes after it that need not be zero, and zeros
record_read : (r : List ℕ) (f n : ℕ) → Bytes r → length r ≡ record_size → Read r f n → record_of f (take n (drop 2 r)) ≡ r
unfolding length_field record_of
record_read [] f n b h w = absurd (omega arith)
record_read (x ∷ []) f n b h w = absurd (omega arith)
record_read (x ∷ y ∷ t) f n b h w =
    let hx : f / 256 ≡ x = omega arith in
    let hy : f % 256 ≡ y = omega arith in
    let hl : length (take n t) ≡ n = length-take-le n t (omega arith) in
    let m : max_len - n ≡ length (drop n t) = omega (arith, length-drop n t) in
    let z = zeros_of (drop n t) (ap all_zero (drop-drop n 2 (x ∷ y ∷ t)) ∙ w.tail) in
    rw (hx, hy, hl, m, ← z, take-append-drop n t)

-- a record of a key is the record of its key bytes
pub key_record : (r : List ℕ) → Bytes r → length r ≡ record_size → (n : ℕ) → Read r n n → record_of (length (key_bytes r)) (key_bytes r) ≡ r
unfolding key_bytes
key_record r b h n w =
    let l : length (take n (drop 2 r)) ≡ n = length-take-le n (drop 2 r) (omega (arith, length-drop 2 r)) in
    rw (w.field, l) (record_read r n n b h w)

module _ (r : List ℕ) (b : Bytes r) (h : length r ≡ record_size) where
  -- a record that is read as an element is the record of that element
  pub encode_element : element_reading (reading r) ≡ true → encode (element r) ≡ r
  unfolding encode
  encode_element e = element_cases (λ v. encode v ≡ r) r e (key_record r b h) (record_read r max_mark 0 b h)

  -- a record that is read as an edge is the record of that edge
  pub encode_edge_lem : edge_reading (reading r) ≡ true → encode_edge (edge_of r) ≡ r
  unfolding encode_edge
  encode_edge_lem e = edge_cases (λ v. encode_edge v ≡ r) r e (key_record r b h) (record_read r no_edge_mark 0 b h)

-- ---- an edge by its kind

module _ (r : List ℕ) (k : EdgeKind) (e : k ≡ edge_kind r) where
  -- a record of the kind absent stands for no edge
  pub absent_edge : k ≡ kinds.Absent → edge_of r ≡ no_edge
  unfolding edge_kind edge_of
  absent_edge h = go (eqb (length_field r) no_edge_mark) (sym e ∙ h)
    where
      go : (t : Bool) → kind_of (cond t no_edge (edge (key_bytes r))) ≡ kinds.Absent → cond t no_edge (edge (key_bytes r)) ≡ no_edge
      go true q = refl
      go false q = let z : ◌≡◌ {A = ℕ} 0 1 = cc in absurd (omega arith)

  -- a record of the kind prefix stands for its key bytes
  pub prefix_edge : (n : ℕ) → k ≡ kinds.Prefix n → edge_of r ≡ edge (key_bytes r)
  unfolding edge_kind edge_of
  prefix_edge n h = go (eqb (length_field r) no_edge_mark) (sym e ∙ h)
    where
      go : (t : Bool) → kind_of (cond t no_edge (edge (key_bytes r))) ≡ kinds.Prefix n → cond t no_edge (edge (key_bytes r)) ≡ edge (key_bytes r)
      go true q = let z : ◌≡◌ {A = ℕ} 0 1 = cc in absurd (omega arith)
      go false q = refl
