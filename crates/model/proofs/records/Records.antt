-- Several records.
use mathlib.Core.Path.{◌≡◌, refl, ap}
use mathlib.Core.Bool.{Bool, true}
use mathlib.Core.List.{List, [], ◌∷◌, ◌++◌, map, append_assoc}
use Prim.Native.Nat.{ℕ, zero, suc, ◌+◌, ◌*◌, ◌/◌, ◌≤◌, ◌<◌}
use native.Mathlib.Omega.{arith}
use native.Mathlib.Nat.{mul-div_cancel, zero-mul}
use lib.ListN.{length, take, drop, get_or, length-append, length-drop, take-append-drop}
use lib.Seq.{length-take-le, take_at, drop_at, drop-drop}
use Rattle.model.specs.keys.Key.{Bytes}
use Rattle.model.specs.keys.Order.{Element}
use Rattle.model.specs.records.Record.{Edge, record_size, reading, element_reading, edge_reading, encode, encode_edge, element, edge_of}
use Rattle.model.specs.records.Record.{pieces, joined, records, elements, edges, encode_all, encode_edges}
use Rattle.model.specs.tables.Tables.{all, short_element, short_edge}
use Rattle.model.proofs.Lists.{all_parts}
use Rattle.model.proofs.keys.Key.{both, bytes_take, bytes_drop}
use Rattle.model.proofs.records.Record.{length_encode, length-encode_edge, element_encode, edge_encode}
use Rattle.model.proofs.records.Record.{encode_element, encode_edge_lem}

-- ---- values written one after the other, each in s bytes

-- what is written of values and then of others is written of all of them
pub joined_append : {A : Type 0} (write : A → List ℕ) (xs ys : List A)
    → joined (map write (xs ++ ys)) ≡ joined (map write xs) ++ joined (map write ys)
unfolding joined
joined_append write [] ys = refl
joined_append write (x ∷ xs) ys = rw (joined_append write xs ys, append_assoc)

module _ {A : Type 0} (s : ℕ) (ok : A → Bool) (write : A → List ℕ) (size : (x : A) → ok x ≡ true → length (write x) ≡ s) where
  -- equal pieces have together their number times their size
  pub length_joined : (xs : List A) → all ok xs ≡ true → length (joined (map write xs)) ≡ length xs * s
  unfolding joined all
  length_joined [] h = omega arith
  length_joined (x ∷ xs) h =
      let p = both (ok x) (all ok xs) h in
      rw (length-append, size x p.0, length_joined xs p.1) (omega arith)

  module _ (n : ℕ) (xs : List A) (m : n ≤ length xs) (h : all ok xs ≡ true) where
    -- all values are the first n and those that follow them
    seam : joined (map write xs) ≡ joined (map write (take n xs)) ++ joined (map write (drop n xs))
    seam = rw (← joined_append write (take n xs) (drop n xs), take-append-drop n xs)

    -- the first n have n pieces
    size_first : length (joined (map write (take n xs))) ≡ n * s
    size_first = rw (length_joined (take n xs) (all_parts ok n xs h).0, length-take-le n xs m)

    -- the first values are written in the first pieces
    pub joined_take : joined (map write (take n xs)) ≡ take (n * s) (joined (map write xs))
    joined_take = rw (seam, take_at (joined (map write (take n xs))) (joined (map write (drop n xs))) (n * s) size_first)

    -- and those that follow them in the rest
    pub joined_drop : joined (map write (drop n xs)) ≡ drop (n * s) (joined (map write xs))
    joined_drop = rw (seam, drop_at (joined (map write (take n xs))) (joined (map write (drop n xs))) (n * s) size_first)

  -- the first m values, others, and those from place n on
  pub joined_parts : (m n : ℕ) (xs ys : List A) (l : List ℕ) → joined (map write xs) ≡ l → m ≤ length xs → n ≤ length xs → all ok xs ≡ true
      → joined (map write (take m xs ++ (ys ++ drop n xs))) ≡ take (m * s) l ++ (joined (map write ys) ++ drop (n * s) l)
  joined_parts m n xs ys l e f g h =
      rw (joined_append write (take m xs) (ys ++ drop n xs), joined_append write ys (drop n xs), joined_take m xs f h, joined_drop n xs g h, e)

  module _ (read : List ℕ → A) (back : (x : A) → ok x ≡ true → read (write x) ≡ x) where
    read_first : (xs : List A) → all ok xs ≡ true → map read (pieces s (length xs) (joined (map write xs))) ≡ xs
    unfolding joined all pieces
    read_first [] h = refl
    read_first (x ∷ xs) h =
        let p = both (ok x) (all ok xs) h in
        let w = size x p.0 in
        rw (take_at (write x) (joined (map write xs)) s w, drop_at (write x) (joined (map write xs)) s w, back x p.0, read_first xs p.1)

    -- values read back from their pieces
    pub read_joined : 0 < s → (xs : List A) → all ok xs ≡ true
        → map read (pieces s (length (joined (map write xs)) / s) (joined (map write xs))) ≡ xs
    read_joined h xs e = rw (length_joined xs e, mul-div_cancel (length xs) h) (read_first xs e)

-- a piece is the part of the bytes at its place
pub piece_at : (s n i : ℕ) (l : List ℕ) → i < n → get_or (pieces s n l) i [] ≡ take s (drop (i * s) l)
unfolding pieces
piece_at s zero i l h = absurd (omega arith)
piece_at s (suc n) zero l h = rw (zero-mul)
piece_at s (suc n) (suc i) l h =
    let next_place : s + i * s ≡ suc i * s = omega arith in
    rw (piece_at s n i (drop s l) (omega arith), drop-drop, next_place)

-- there are as many as are asked for
pub length_pieces : (s n : ℕ) (l : List ℕ) → length (pieces s n l) ≡ n
unfolding pieces
length_pieces s zero l = refl
length_pieces s (suc n) l = ap suc (length_pieces s n (drop s l))

-- bytes are their pieces one after the other
pub pieces_joined : (s n : ℕ) (l : List ℕ) → length l ≡ n * s → joined (pieces s n l) ≡ l
unfolding joined pieces
pieces_joined s zero [] h = refl
pieces_joined s zero (x ∷ l) h = absurd (omega arith)
pieces_joined s (suc n) l h = rw (pieces_joined s n (drop s l) (omega (arith, length-drop s l)), take-append-drop)

-- pieces that are each what is written of what is read
module _ {A : Type 0} (s : ℕ) (ok : List ℕ → Bool) (read : List ℕ → A) (write : A → List ℕ)
    (back : (r : List ℕ) → Bytes r → length r ≡ s → ok r ≡ true → write (read r) ≡ r) where
  -- bytes are what is written of the values read from their pieces
  pub joined_read : (n : ℕ) (l : List ℕ) → Bytes l → length l ≡ n * s → all ok (pieces s n l) ≡ true
      → joined (map write (map read (pieces s n l))) ≡ l
  unfolding joined pieces all
  joined_read zero [] b h e = refl
  joined_read zero (x ∷ l) b h e = absurd (omega arith)
  joined_read (suc n) l b h e =
      let p = both (ok (take s l)) (all ok (pieces s n (drop s l))) e in
      let first = back (take s l) (bytes_take s l b) (length-take-le s l (omega arith)) p.0 in
      let rest = joined_read n (drop s l) (bytes_drop s l b) (omega (arith, length-drop s l)) p.1 in
      rw (first, rest, take-append-drop)

-- ---- pivots and edges

-- the records of pivots have 66 bytes each
pub length-encode_all : (pt : List Element) → all short_element pt ≡ true → length (encode_all pt) ≡ length pt * record_size
unfolding encode_all
length-encode_all = length_joined record_size short_element encode length_encode

-- the records of edges have 66 bytes each
pub length-encode_edges : (et : List Edge) → all short_edge et ≡ true → length (encode_edges et) ≡ length et * record_size
unfolding encode_edges
length-encode_edges = length_joined record_size short_edge encode_edge length-encode_edge

-- pivots read back from their records
pub elements-encode_all : (pt : List Element) → all short_element pt ≡ true → elements (encode_all pt) ≡ pt
unfolding elements records encode_all
elements-encode_all = read_joined record_size short_element encode length_encode element element_encode (omega arith)

-- edges read back from their records
pub edges-encode_edges : (et : List Edge) → all short_edge et ≡ true → edges (encode_edges et) ≡ et
unfolding edges records encode_edges
edges-encode_edges = read_joined record_size short_edge encode_edge length-encode_edge edge_of edge_encode (omega arith)

-- records that are each read as an element are the records of those elements
pub encode_all-elements : (l : List ℕ) (n : ℕ) → Bytes l → length l ≡ n * record_size
    → all (λ (r : List ℕ). element_reading (reading r)) (records l) ≡ true → encode_all (elements l) ≡ l
unfolding encode_all elements records
encode_all-elements l n b h =
    joined_read record_size (λ (r : List ℕ). element_reading (reading r)) element encode encode_element (length l / record_size) l b (omega arith)

-- records that are each read as an edge are the records of those edges
pub encode_edges-edges : (l : List ℕ) (n : ℕ) → Bytes l → length l ≡ n * record_size
    → all (λ (r : List ℕ). edge_reading (reading r)) (records l) ≡ true → encode_edges (edges l) ≡ l
unfolding encode_edges edges records
encode_edges-edges l n b h =
    joined_read record_size (λ (r : List ℕ). edge_reading (reading r)) edge_of encode_edge encode_edge_lem (length l / record_size) l b (omega arith)
