-- The passes over edges: what is known of all of them by what is left.
use mathlib.Core.Path.{◌≡◌, refl, sym, ◌∙◌}
use mathlib.Core.Bool.{Bool, true, false, not, ◌&&◌}
use mathlib.Core.List.{List, [], ◌∷◌}
use Prim.Native.Nat.{ℕ, suc, ◌+◌, ◌/◌, ◌≤◌, ◌<◌}
use native.Mathlib.Numerals.{add-one}
use native.Mathlib.Omega.{arith}
use borrow.Author.Tests.{not-true, not-false, eq-eqb, ne_eqb}
use lib.ListN.{length, drop, drop_of_length-le}
use lib.Seq.{drop-cons}
use Rattle.model.specs.declared.EdgeKind.{EdgeKind}
use Rattle.model.specs.declared.EdgeKind.TheVariants as kinds
use Rattle.model.specs.keys.Key.{is_nil}
use Rattle.model.specs.keys.Order.{max}
use Rattle.model.specs.records.Record.{no_edge, reading, edge_reading, records, element, edge_of, elements, edges}
use Rattle.model.specs.inner.EdgeKinds.{edge_kind}
use Rattle.model.specs.inner.Places.{record_at}
use Rattle.model.specs.ranges.RangePrefix.{PivotLcp}
use Rattle.model.specs.tables.Tables.{PivotTable, EdgeTable, pivot_at, edge_at, all, edge_fits, edges_fit, WFEdges}
use Rattle.model.specs.calls.TableCalls.{edges_read, edges_stand}
use Rattle.model.proofs.records.Record.{absent_edge, prefix_edge}
use Rattle.model.proofs.calls.TableCalls.{length_records, length_elements, length_edges, element_at, edge_at_lem}

-- ---- are they read as edges?

module _ (e : List ℕ) (i : ℕ) (w : edges_read (records e) ≡ edges_read (drop i (records e))) where
  pub edges_over : length e / 66 ≤ i → true ≡ edges_read (records e)
  unfolding edges_read all
  edges_over h =
      let q : length (records e) ≤ i = omega (arith, length_records e) in
      rw (w, drop_of_length-le (records e) q)

  module _ (a : List ℕ) (t : Bool) (h : i < length e / 66) (f : a ≡ record_at e i) (g : t ≡ edge_reading (reading a)) where
    here_edge : edges_read (records e) ≡ (t && edges_read (drop (i + 1) (records e)))
    unfolding edges_read all
    here_edge = rw (g, f) (w ∙ rw (drop-cons (records e) i [] (omega (arith, length_records e)), add-one))

    pub not_edge : not t ≡ true → false ≡ edges_read (records e)
    not_edge k = sym (rw (not-true t k) at here_edge)

    pub next_edge : not t ≡ false → edges_read (records e) ≡ edges_read (drop (i + 1) (records e))
    next_edge k = rw (not-false t k) at here_edge

-- ---- may an edge stand there?

module _ (a b e : List ℕ) (k : EdgeKind) (m : k ≡ edge_kind e) where
  pub none_fits : k ≡ kinds.Absent → true ≡ edge_fits (PivotLcp (element a) (element b)) (edge_of e)
  none_fits h = rw (absent_edge e k m h)

  pub prefix_fits : (n : ℕ) (u : Bool) → k ≡ kinds.Prefix n → u ≡ not (is_nil (PivotLcp (element a) (element b)))
      → u ≡ edge_fits (PivotLcp (element a) (element b)) (edge_of e)
  prefix_fits n u h g = rw (prefix_edge e k m n h) g

-- the slot's records are those at its place
pub slot_told : (p e a b c : List ℕ) (i : ℕ) (t : Bool) → a ≡ record_at p i → b ≡ record_at p (i + 1) → c ≡ record_at e i
    → t ≡ edge_fits (PivotLcp (element a) (element b)) (edge_of c)
    → t ≡ edge_fits (PivotLcp (element (record_at p i)) (element (record_at p (i + 1)))) (edge_of (record_at e i))
slot_told p e a b c i t x y z f = rw (← x, ← y, ← z) f

-- ---- do all stand?

-- the slots from i on are those of a table that begins there
fit_on : (pt : PivotTable) (et : EdgeTable) (i : ℕ) → i < length et → i + 1 < length pt
    → edges_fit (pivot_at pt i) (drop (i + 1) pt) (drop i et)
    ≡ (edge_fits (PivotLcp (pivot_at pt i) (pivot_at pt (i + 1))) (edge_at et i) && edges_fit (pivot_at pt (i + 1)) (drop (i + 1 + 1) pt) (drop (i + 1) et))
unfolding edges_fit
fit_on pt et i h k = rw (add-one, add-one, drop-cons pt (suc i) max (omega arith), drop-cons et i no_edge h)

-- the edges stand if those from i on do
pub record Standing (p e : List ℕ) (i : ℕ) : Type 0 where
  pub agree : length p / 66 ≡ length e / 66 + 1
  pub within : i ≤ length e / 66
  pub stand : edges_stand p e ≡ edges_fit (pivot_at (elements p) i) (drop (i + 1) (elements p)) (drop i (edges e))

-- the count of the edges against that of the pivots
count_differs : (et : EdgeTable) (pt : PivotTable) → (length pt ≡ length et + 1 → ⊥) → false ≡ WFEdges et pt
unfolding WFEdges
count_differs et [] h = refl
count_differs et (p ∷ pt) h = rw (ne_eqb (length et) (length pt) (λ q. h (omega arith)))

count_agrees : (et : EdgeTable) (pt : PivotTable) → length pt ≡ length et + 1 → WFEdges et pt ≡ edges_fit (pivot_at pt 0) (drop (0 + 1) pt) (drop 0 et)
unfolding WFEdges
count_agrees et [] h = absurd (omega arith)
count_agrees et (p ∷ pt) h = rw (eq-eqb (length et) (length pt) (omega arith))

module _ (p e : List ℕ) where
  pub other_count : (length p / 66 ≡ length e / 66 + 1 → ⊥) → false ≡ edges_stand p e
  other_count h = count_differs (edges e) (elements p) (λ q. h (omega (arith, length_elements p, length_edges e)))

  pub stand_start : length p / 66 ≡ length e / 66 + 1 → Standing p e 0
  stand_start n =
      record {
        agree = n;
        within = omega arith;
        stand = count_agrees (edges e) (elements p) (omega (arith, length_elements p, length_edges e));
      }

  module _ (i : ℕ) (w : Standing p e i) where
    pub stand_over : length e / 66 ≤ i → true ≡ edges_stand p e
    unfolding edges_fit
    stand_over h =
        let s : length (elements p) ≤ i + 1 = omega (arith, length_elements p, w.agree) in
        rw (w.stand, drop_of_length-le (elements p) s)

    module _ (t : Bool) (h : i < length e / 66)
        (f : t ≡ edge_fits (PivotLcp (element (record_at p i)) (element (record_at p (i + 1)))) (edge_of (record_at e i))) where
      here_stands : edges_stand p e ≡ (t && edges_fit (pivot_at (elements p) (i + 1)) (drop (i + 1 + 1) (elements p)) (drop (i + 1) (edges e)))
      here_stands =
          rw (f, ← element_at p i (omega (arith, w.agree)), ← element_at p (i + 1) (omega (arith, w.agree)), ← edge_at_lem e i h)
          (w.stand ∙ fit_on (elements p) (edges e) i (omega (arith, length_edges e)) (omega (arith, length_elements p, w.agree)))

      pub stands_not : not t ≡ true → false ≡ edges_stand p e
      stands_not k = sym (rw (not-true t k) at here_stands)

      pub stand_next : not t ≡ false → Standing p e (i + 1)
      stand_next k = record { agree = w.agree; within = omega arith; stand = rw (not-false t k) at here_stands }
