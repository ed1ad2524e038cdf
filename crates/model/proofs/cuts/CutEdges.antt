-- The edges of a table cut to a range: each is the old slot's edge, cut; cutting twice is cutting once.
use mathlib.Core.Path.{◌≡◌, refl, sym, ap, ◌∙◌}
use mathlib.Core.Bool.{true, false≢true}
use mathlib.Core.List.{[], ◌∷◌, ◌++◌, append_assoc, append-nil}
use Prim.Native.Nat.{ℕ, zero, suc, ◌+◌, ◌<◌}
use native.Mathlib.Numerals.{add-one}
use native.Mathlib.Omega.{arith}
use borrow.Author.Tests.{eqb-true, eq-eqb, leb-true, le-leb}
use lib.Dec.{eqb}
use lib.ListN.{length}
use lib.Seq.{drop-length, ext_get_or}
use Rattle.model.specs.keys.Key.{Key, max_len, IsPrefix, change_prefix}
use Rattle.model.specs.keys.Order.{Element, lt, LargestLte, BytesE}
use Rattle.model.specs.records.Record.{Edge, edge, no_edge}
use Rattle.model.specs.ranges.RangePrefix.{PivotLcp}
use Rattle.model.specs.tables.Tables.{PivotTable, EdgeTable, short_edge, pivot_at, edge_at, edge_fits, edges_fit, WFEdges, BytesT, slot_prefix}
use Rattle.model.specs.cuts.Cuts.{cut_edge, edge_within, strictly_between, plain_edges_from}
use Rattle.model.proofs.keys.Key.{both, beyond_trans, length_change}
use Rattle.model.proofs.ranges.RangePrefix.{narrows}
use Rattle.model.proofs.cuts.Between.{bytes_at, Within}
use Rattle.model.proofs.tables.Slots.{Inside, inside_within, inside_left}
use Rattle.model.proofs.cuts.Ranges.{cut_to, Spans, cut_bytes_lem, cut_cut, cut_spans, cut_inside}

-- ---- one edge

-- changing a prefix, and then the longer prefix that it made, is changing the first
pub change_twice : (p q r x : Key) → IsPrefix p q ≡ true → IsPrefix q r ≡ true → change_prefix q (change_prefix p x q) r ≡ change_prefix p x r
unfolding change_prefix
change_twice p q r x h k = rw (append_assoc, beyond_trans p q r h k)

-- an edge cut to its own range is the same
pub cut_same : (p : Key) (e : Edge) → cut_edge p p e ≡ e
unfolding cut_edge change_prefix
cut_same p (edge q) = rw (drop-length p, append-nil)
cut_same p no_edge = refl

-- an edge cut twice is the edge cut once
edge_twice : (p q r : Key) (e : Edge) → IsPrefix p q ≡ true → IsPrefix q r ≡ true → cut_edge q r (cut_edge p q e) ≡ cut_edge p r e
unfolding cut_edge
edge_twice p q r (edge x) h k = ap edge (change_twice p q r x h k)
edge_twice p q r no_edge h k = refl

-- a cut edge fits where the edge does
edge_fits_lem : (p q : Key) (e : Edge) → IsPrefix p q ≡ true → edge_fits p e ≡ true → edge_fits q (cut_edge p q e) ≡ true
unfolding cut_edge IsPrefix
edge_fits_lem [] q (edge x) h f = absurd (false≢true f)
edge_fits_lem (a ∷ p) [] (edge x) h f = h
edge_fits_lem (a ∷ p) (b ∷ q) (edge x) h f = refl
edge_fits_lem p q no_edge h f = refl

-- an edge is short where its cut is
pub edge_short : (p q : Key) (e : Edge) → short_edge (cut_edge p q e) ≡ true → short_edge e ≡ true
unfolding cut_edge
edge_short p q (edge x) h =
    let n = leb-true (length (change_prefix p x q)) max_len h in
    le-leb (length x) max_len (omega (arith, length_change p x q))
edge_short p q no_edge h = refl

-- ---- the edges of well-formed tables

-- what WFEdges says
pub record Fit (et : EdgeTable) (pt : PivotTable) : Type 0 where
  pub count : length et + 1 ≡ length pt
  pub fits : (i : ℕ) → i + 1 < length pt → edge_fits (slot_prefix pt i) (edge_at et i) ≡ true

-- each edge fits where all do
fits_at : (p : Element) (pt : PivotTable) (et : EdgeTable) → length et ≡ length pt → edges_fit p pt et ≡ true
    → (i : ℕ) → i < length pt → edge_fits (PivotLcp (pivot_at (p ∷ pt) i) (pivot_at pt i)) (edge_at et i) ≡ true
unfolding edges_fit
fits_at p [] et e h i k = absurd (omega arith)
fits_at p (q ∷ pt) [] e h i k = absurd (omega arith)
fits_at p (q ∷ pt) (x ∷ et) e h zero k = (both (edge_fits (PivotLcp p q) x) (edges_fit q pt et) h).0
fits_at p (q ∷ pt) (x ∷ et) e h (suc i) k =
    fits_at q pt et (omega arith) (both (edge_fits (PivotLcp p q) x) (edges_fit q pt et) h).1 i (omega arith)

-- all fit where each does
fits_all : (p : Element) (pt : PivotTable) (et : EdgeTable)
    → ((i : ℕ) → i < length pt → edge_fits (PivotLcp (pivot_at (p ∷ pt) i) (pivot_at pt i)) (edge_at et i) ≡ true) → edges_fit p pt et ≡ true
unfolding edges_fit
fits_all p [] et f = refl
fits_all p (q ∷ pt) [] f = refl
fits_all p (q ∷ pt) (x ∷ et) f = rw (f 0 (omega arith)) (fits_all q pt et (λ i k. f (suc i) (omega arith)))

pub edges_say : (et : EdgeTable) (pt : PivotTable) → WFEdges et pt ≡ true → Fit et pt
unfolding WFEdges
edges_say et [] h = absurd (false≢true h)
edges_say et (p ∷ pt) h =
    let w = both (eqb (length et) (length pt)) (edges_fit p pt et) h in
    let e = eqb-true (length et) (length pt) w.0 in
    record { count = omega arith; fits = λ i k. rw add-one (fits_at p pt et e w.1 i (omega arith)) }

-- WFEdges says no more than the count and that each edge fits
pub say_edges : (et : EdgeTable) (pt : PivotTable) → Fit et pt → WFEdges et pt ≡ true
unfolding WFEdges
say_edges et [] w = absurd (omega (arith, w.count))
say_edges et (p ∷ pt) w =
    rw (eq-eqb (length et) (length pt) (omega (arith, w.count)))
    (fits_all p pt et (λ i k. rw add-one at (w.fits i (omega arith))))

-- ---- the edges of a cut

-- the edges of the cut to the range from a to b
unfoldable pub cut_edges_to : PivotTable → EdgeTable → Element → Element → EdgeTable
cut_edges_to pt et a b = plain_edges_from pt et a (strictly_between a b pt ++ (b ∷ []))

module _ (pt : PivotTable) (et : EdgeTable) where
  -- the edge that slot i of a cut has of the table
  abbrev pub slot_edge : PivotTable → ℕ → Edge
  slot_edge cut i = edge_within pt et (LargestLte pt (pivot_at cut i)) (pivot_at cut i) (pivot_at cut (i + 1))

  -- there is an edge for each pivot after the first
  from_count : (a : Element) (xs : PivotTable) → length (plain_edges_from pt et a xs) ≡ length xs
  unfolding plain_edges_from
  from_count a [] = refl
  from_count a (x ∷ xs) = ap suc (from_count x xs)

  -- it is the edge of the old slot, cut
  from_at : (a : Element) (xs : PivotTable) (i : ℕ) → i < length xs
      → edge_at (plain_edges_from pt et a xs) i ≡ edge_within pt et (LargestLte pt (pivot_at (a ∷ xs) i)) (pivot_at (a ∷ xs) i) (pivot_at xs i)
  unfolding plain_edges_from
  from_at a [] i h = absurd (omega arith)
  from_at a (x ∷ xs) zero h = refl
  from_at a (x ∷ xs) (suc i) h = from_at x xs i (omega arith)

  module _ (a b : Element) where
    -- there is an edge for each slot
    pub cut_count : length (cut_edges_to pt et a b) + 1 ≡ length (cut_to pt a b)
    unfolding cut_to cut_edges_to
    cut_count = omega (arith, from_count a (strictly_between a b pt ++ (b ∷ [])))

    -- it is such
    pub cut_edge_lem : (i : ℕ) → i + 1 < length (cut_to pt a b) → edge_at (cut_edges_to pt et a b) i ≡ slot_edge (cut_to pt a b) i
    unfolding cut_to cut_edges_to
    cut_edge_lem i h = rw add-one (from_at a (strictly_between a b pt ++ (b ∷ [])) i (omega arith))

    -- and there are no other such edges
    pub cut_edges_lem : (es : EdgeTable) → length es + 1 ≡ length (cut_to pt a b)
        → ((i : ℕ) → i + 1 < length (cut_to pt a b) → edge_at es i ≡ slot_edge (cut_to pt a b) i) → es ≡ cut_edges_to pt et a b
    cut_edges_lem es e f =
        ext_get_or no_edge es (cut_edges_to pt et a b) (omega (arith, cut_count))
        (λ i h. f i (omega arith) ∙ sym (cut_edge_lem i (omega arith)))

-- the prefix of a slot begins that of each range in it
pub inside_narrows : {pt : PivotTable} {i : ℕ} {x y : Element} → Inside pt i x y → BytesE x → BytesE y → IsPrefix (slot_prefix pt i) (PivotLcp x y) ≡ true
inside_narrows {pt} {i} {x} {y} w f g = narrows (pivot_at pt i) (pivot_at pt (i + 1)) x y w.from w.rises w.upto f g

module _ {pt : PivotTable} {a b : Element} (w : Spans pt a b) (t : BytesT pt) (f : BytesE a) (g : BytesE b) where
  -- the prefix of the old slot begins that of the cut's
  pub cut_narrows : (i : ℕ) → i + 1 < length (cut_to pt a b)
      → IsPrefix (slot_prefix pt (LargestLte pt (pivot_at (cut_to pt a b) i))) (slot_prefix (cut_to pt a b) i) ≡ true
  cut_narrows i h =
      let c = cut_bytes_lem pt a b t f g in
      inside_narrows (cut_inside w i h) (bytes_at (cut_to pt a b) i c) (bytes_at (cut_to pt a b) (i + 1) c)

  module _ (et : EdgeTable) where
    -- the edges of the cut fit where those of the table do
    pub cut_fit : Fit et pt → Fit (cut_edges_to pt et a b) (cut_to pt a b)
    unfolding edge_within
    cut_fit v = record { count = cut_count pt et a b; fits = go }
      where
        go : (i : ℕ) → i + 1 < length (cut_to pt a b)
            → edge_fits (slot_prefix (cut_to pt a b) i) (edge_at (cut_edges_to pt et a b) i) ≡ true
        go i h =
            let q = LargestLte pt (pivot_at (cut_to pt a b) i) in
            rw (cut_edge_lem pt et a b i h)
            (edge_fits_lem _ _ (edge_at et q) (cut_narrows i h) (v.fits q (cut_inside w i h).slot))

    -- an edge of the cut, cut to a range in its slot, is the old slot's edge, cut to it
    edge_in_cut : (i : ℕ) (x y : Element) → Inside (cut_to pt a b) i x y → BytesE x → BytesE y
        → edge_within (cut_to pt a b) (cut_edges_to pt et a b) i x y ≡ edge_within pt et (LargestLte pt x) x y
    unfolding edge_within
    edge_in_cut i x y v d e =
        let u = cut_inside w i v.slot in
        let q = inside_left w.table (inside_within x y u (record { after = v.from; before = v.upto }) v.rises) in
        rw (cut_edge_lem pt et a b i v.slot, q) (edge_twice _ _ _ _ (cut_narrows i v.slot) (inside_narrows v d e))

    -- cutting the edges of a cut to a range within is cutting those of the table to it
    pub cut_cut_edges : (a' b' : Element) → Within a b a' b' → lt a' b' ≡ true → BytesE a' → BytesE b'
        → cut_edges_to (cut_to pt a b) (cut_edges_to pt et a b) a' b' ≡ cut_edges_to pt et a' b'
    cut_cut_edges a' b' v h d e = cut_edges_lem pt et a' b' _ (rw one at (cut_count (cut_to pt a b) (cut_edges_to pt et a b) a' b')) go
      where
        one : cut_to (cut_to pt a b) a' b' ≡ cut_to pt a' b'
        one = cut_cut pt a b a' b' v

        go : (i : ℕ) → i + 1 < length (cut_to pt a' b')
            → edge_at (cut_edges_to (cut_to pt a b) (cut_edges_to pt et a b) a' b') i ≡ slot_edge pt et (cut_to pt a' b') i
        go i k =
            let c = cut_bytes_lem pt a' b' t d e in
            let k' : i + 1 < length (cut_to (cut_to pt a b) a' b') = rw one k in
            rw one at (cut_edge_lem (cut_to pt a b) (cut_edges_to pt et a b) a' b' i k')
            ∙ edge_in_cut _ (pivot_at (cut_to pt a' b') i) (pivot_at (cut_to pt a' b') (i + 1))
            (rw one at (cut_inside (cut_spans w a' b' v h) i k')) (bytes_at (cut_to pt a' b') i c) (bytes_at (cut_to pt a' b') (i + 1) c)
