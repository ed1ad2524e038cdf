-- The edges of the left and the right cut: they fit, and where the cut slot's range or edge does not change they are the old ones. Where there are none, a cut is of pivots alone.
use mathlib.Core.Path.{◌≡◌, refl, sym, ◌∙◌}
use mathlib.Core.Logic.{⊎_elim}
use mathlib.Core.Bool.{Bool, true, false}
use mathlib.Core.List.{[], ◌∷◌, ◌++◌}
use Prim.Native.Nat.{ℕ, zero, suc, ◌+◌, ◌-◌, ◌≤◌, ◌<◌}
use native.Mathlib.Numerals.{add-one}
use native.Mathlib.Nat.{add-zero, eq-or-lt_of_le}
use native.Mathlib.Omega.{arith}
use lib.ListN.{length, take, drop, length-append, length-drop, get_or-append}
use lib.Seq.{length-take-le, take-suc, drop-cons, get_or-take, get_or-drop, get_or_at}
use Rattle.model.specs.keys.Key.{Key, Bytes}
use Rattle.model.specs.keys.Order.{key, max}
use Rattle.model.specs.records.Record.{Edge, no_edge}
use Rattle.model.specs.tables.Tables.{PivotTable, EdgeTable, NumBuckets, pivot_at, edge_at, last_pivot, all, short_edge, WFPivots, WFEdges, BytesT}
use Rattle.model.specs.tables.Tables.{BoundedKey, ValidLeftCutOffKey, CutoffForLeft, CutoffForRight}
use Rattle.model.specs.cuts.Cuts.{SplitLeft, SplitRight, cut_edge, edge_within, SplitLeftEdges, SplitRightEdges}
use Rattle.model.specs.cuts.Sides.{SplitEdges}
use Rattle.model.proofs.Lists.{le_or_lt, all_at, all_append, all_parts}
use Rattle.model.proofs.cuts.Between.{bytes_at}
use Rattle.model.proofs.tables.Slots.{Table, wf_says, inside_left, slot_itself}
use Rattle.model.proofs.cuts.Cuts.{left_spans, left_slot, left_is_cut, left_length, left_at, left_end}
use Rattle.model.proofs.cuts.Cuts.{right_spans, right_slot, right_is_cut, right_length, right_at}
use Rattle.model.proofs.cuts.CutEdges.{cut_same, edge_short, edges_say, say_edges, cut_edges_to, slot_edge, cut_count, cut_edges_lem, cut_fit}

module _ {pt : PivotTable} (et : EdgeTable) (t : Table pt) (n : length et + 1 ≡ length pt) (k : Key) where
  -- the edge of a slot, cut to its own range, is the same
  old_edge : (i : ℕ) → i + 1 < length pt → slot_edge pt et pt i ≡ edge_at et i
  unfolding edge_within
  old_edge i h = rw (inside_left t (slot_itself t i h)) (cut_same _ (edge_at et i))

  -- the edges of the left cut are those of the cut to its range
  pub left_edges_cut : ValidLeftCutOffKey pt k ≡ true → SplitLeftEdges et pt k ≡ cut_edges_to pt et (pivot_at pt 0) (key k)
  unfolding SplitLeftEdges
  left_edges_cut v =
      cut_edges_lem pt et (pivot_at pt 0) (key k) (SplitLeftEdges et pt k)
      (rw (← left_is_cut t k v, left_length t k v, length-append (take c et) (x ∷ []), size) (omega arith))
      (λ i h. rw (← left_is_cut t k v) (⊎_elim (at_cut i (rw (← left_is_cut t k v) at h)) (before i) (le_or_lt c i)))
    where
      c : ℕ
      c = CutoffForLeft pt k

      x : Edge
      x = edge_within pt et c (pivot_at pt c) (key k)

      s : c + 1 < length pt
      s = (left_slot t k v).slot

      size : length (take c et) ≡ c
      size = let u = s in length-take-le c et (omega arith)

      before : (i : ℕ) → i < c → edge_at (take c et ++ (x ∷ [])) i ≡ slot_edge pt et (SplitLeft pt k) i
      before i l =
          let u = s in
          rw (left_at t k v i (omega arith), left_at t k v (i + 1) (omega arith), old_edge i (omega arith))
          (get_or-append (take c et) (x ∷ []) no_edge i (rw size l) ∙ get_or-take c et i no_edge l)

      at_cut : (i : ℕ) → i + 1 < length (SplitLeft pt k) → c ≤ i
          → edge_at (take c et ++ (x ∷ [])) i ≡ slot_edge pt et (SplitLeft pt k) i
      at_cut i h l =
          let u = s in
          let e : i ≡ c = omega (arith, left_length t k v) in
          rw (e, left_at t k v c (omega arith), left_end t k v, inside_left t (slot_itself t c s)) (get_or_at (take c et) x [] no_edge c size)

  -- there is one for each slot
  pub left_count : ValidLeftCutOffKey pt k ≡ true → length (SplitLeftEdges et pt k) + 1 ≡ length (SplitLeft pt k)
  left_count v = rw (left_edges_cut v, left_is_cut t k v) (cut_count pt et (pivot_at pt 0) (key k))

  -- the edges of the right cut are those of the cut to its range
  pub right_edges_cut : BoundedKey pt k ≡ true → SplitRightEdges et pt k ≡ cut_edges_to pt et (key k) (last_pivot pt)
  unfolding SplitRightEdges SplitRight
  right_edges_cut v =
      cut_edges_lem pt et (key k) (last_pivot pt) (SplitRightEdges et pt k)
      (rw (← right_is_cut t k v, right_length t k v, length-drop) (omega (arith, (right_slot t k v).slot)))
      (λ i h. rw (← right_is_cut t k v) (go i (rw (← right_is_cut t k v) at h)))
    where
      c : ℕ
      c = CutoffForRight pt k

      go : (i : ℕ) → i + 1 < length (SplitRight pt k) → edge_at (SplitRightEdges et pt k) i ≡ slot_edge pt et (SplitRight pt k) i
      go zero h = rw (inside_left t (right_slot t k v), get_or-drop (c + 1) pt 0 max, add-zero (c + 1))
      go (suc i) h =
          let e : c + 1 + suc i ≡ c + 1 + i + 1 = omega arith in
          rw (add-one (suc i), right_at t k v i, right_at t k v (suc i), e, old_edge (c + 1 + i) (omega (arith, right_length t k v)))
          (get_or-drop (c + 1) et i no_edge)

  -- there is one for each slot
  pub right_count : BoundedKey pt k ≡ true → length (SplitRightEdges et pt k) + 1 ≡ length (SplitRight pt k)
  right_count v = rw (right_edges_cut v, right_is_cut t k v) (cut_count pt et (key k) (last_pivot pt))

-- ---- the edges of one cut

module _ (pt : PivotTable) (et : EdgeTable) (k : Key) (w : WFPivots pt ≡ true) (x : WFEdges et pt ≡ true) where
  t : Table pt
  t = (wf_says pt w).table

  n : length et + 1 ≡ length pt
  n = (edges_say et pt x).count

  module _ (v : ValidLeftCutOffKey pt k ≡ true) where
    -- the edges of the left cut fit
    pub split_left_edges_wf : BytesT pt → Bytes k → WFEdges (SplitLeftEdges et pt k) (SplitLeft pt k) ≡ true
    split_left_edges_wf b h =
        rw (left_edges_cut et t n k v, left_is_cut t k v)
        (say_edges _ _ (cut_fit (left_spans t k v) b (bytes_at pt 0 b) h et (edges_say et pt x)))

    -- where the cut edge is the old one, the edges are the old ones
    left_kept : edge_within pt et (CutoffForLeft pt k) (pivot_at pt (CutoffForLeft pt k)) (key k) ≡ edge_at et (CutoffForLeft pt k)
        → SplitLeftEdges et pt k ≡ take (CutoffForLeft pt k + 1) et
    unfolding SplitLeftEdges
    left_kept e =
        let c = CutoffForLeft pt k in
        rw (e, add-one c) (sym (take-suc et c no_edge (omega (arith, n, (left_slot t k v).slot))))

    -- at a pivot the edges that a left cut leaves are the old ones
    pub split_left_pivot : key k ≡ pivot_at pt (CutoffForLeft pt k + 1) → SplitLeftEdges et pt k ≡ take (CutoffForLeft pt k + 1) et
    unfolding edge_within
    split_left_pivot e = left_kept (rw e (cut_same _ (edge_at et (CutoffForLeft pt k))))

    -- in a slot with no edge the edges that a left cut leaves are the old ones
    pub split_left_none : edge_at et (CutoffForLeft pt k) ≡ no_edge → SplitLeftEdges et pt k ≡ take (CutoffForLeft pt k + 1) et
    unfolding edge_within cut_edge
    split_left_none e = left_kept (rw e)

  module _ (v : BoundedKey pt k ≡ true) where
    -- the edges of the right cut fit
    pub split_right_edges_wf : BytesT pt → Bytes k → WFEdges (SplitRightEdges et pt k) (SplitRight pt k) ≡ true
    split_right_edges_wf b h =
        rw (right_edges_cut et t n k v, right_is_cut t k v)
        (say_edges _ _ (cut_fit (right_spans t k v) b h (bytes_at pt (NumBuckets pt) b) et (edges_say et pt x)))

    -- where the cut edge is the old one, the edges are the old ones
    right_kept : edge_within pt et (CutoffForRight pt k) (key k) (pivot_at pt (CutoffForRight pt k + 1)) ≡ edge_at et (CutoffForRight pt k)
        → SplitRightEdges et pt k ≡ drop (CutoffForRight pt k) et
    unfolding SplitRightEdges
    right_kept e =
        let c = CutoffForRight pt k in
        rw (e, add-one c) (sym (drop-cons et c no_edge (omega (arith, n, (right_slot t k v).slot))))

    -- at a pivot the edges that a right cut leaves are the old ones
    pub split_right_pivot : key k ≡ pivot_at pt (CutoffForRight pt k) → SplitRightEdges et pt k ≡ drop (CutoffForRight pt k) et
    unfolding edge_within
    split_right_pivot e = right_kept (rw e (cut_same _ (edge_at et (CutoffForRight pt k))))

    -- in a slot with no edge the edges that a right cut leaves are the old ones
    pub split_right_none : edge_at et (CutoffForRight pt k) ≡ no_edge → SplitRightEdges et pt k ≡ drop (CutoffForRight pt k) et
    unfolding edge_within cut_edge
    split_right_none e = right_kept (rw e)

-- ---- lengths

module _ (pt : PivotTable) (et : EdgeTable) (k : Key) where
  -- where the edges of a left cut are short, so were those up to the cutoff
  pub left_short : CutoffForLeft pt k ≤ length et → all short_edge (SplitLeftEdges et pt k) ≡ true
      → (i : ℕ) → i ≤ CutoffForLeft pt k → short_edge (edge_at et i) ≡ true
  unfolding SplitLeftEdges edge_within
  left_short m h i l = ⊎_elim at_cut before (eq-or-lt_of_le l)
    where
      c : ℕ
      c = CutoffForLeft pt k

      x : Edge
      x = edge_within pt et c (pivot_at pt c) (key k)

      size : length (take c et) ≡ c
      size = length-take-le c et m

      here : short_edge (edge_at (take c et ++ (x ∷ [])) i) ≡ true
      here = all_at short_edge (take c et ++ (x ∷ [])) i no_edge refl h

      at_cut : i ≡ c → short_edge (edge_at et i) ≡ true
      at_cut e = rw e (edge_short _ _ (edge_at et c) (rw (e, get_or_at (take c et) x [] no_edge c size) at here))

      before : i < c → short_edge (edge_at et i) ≡ true
      before e = rw (get_or-append (take c et) (x ∷ []) no_edge i (rw size e), get_or-take c et i no_edge e) at here

  -- where the edges of a right cut are short, so were those from the cutoff on
  pub right_short : all short_edge (SplitRightEdges et pt k) ≡ true → (i : ℕ) → CutoffForRight pt k ≤ i → short_edge (edge_at et i) ≡ true
  unfolding SplitRightEdges edge_within
  right_short h i l = ⊎_elim at_cut after (eq-or-lt_of_le l)
    where
      c : ℕ
      c = CutoffForRight pt k

      x : Edge
      x = edge_within pt et c (key k) (pivot_at pt (c + 1))

      at_cut : c ≡ i → short_edge (edge_at et i) ≡ true
      at_cut e = rw (← e) (edge_short _ _ (edge_at et c) (all_at short_edge (x ∷ drop (c + 1) et) 0 no_edge refl h))

      after : c < i → short_edge (edge_at et i) ≡ true
      after e =
          let p : c + 1 + (i - (c + 1)) ≡ i = omega arith in
          rw (get_or-drop (c + 1) et (i - (c + 1)) no_edge, p) at (all_at short_edge (x ∷ drop (c + 1) et) (suc (i - (c + 1))) no_edge refl h)

  -- beside short edges only the cut edge of a left cut may be long
  pub left_all_short : CutoffForLeft pt k ≤ length et → all short_edge et ≡ true
      → short_edge (edge_at (SplitLeftEdges et pt k) (CutoffForLeft pt k)) ≡ true → all short_edge (SplitLeftEdges et pt k) ≡ true
  unfolding SplitLeftEdges all
  left_all_short m h f =
      let c = CutoffForLeft pt k in
      let x = edge_within pt et c (pivot_at pt c) (key k) in
      let g = rw (get_or_at (take c et) x [] no_edge c (length-take-le c et m)) at f in
      rw (all_append short_edge (take c et) (x ∷ []), (all_parts short_edge c et h).0, g)

  -- beside short edges only the cut edge of a right cut may be long
  pub right_all_short : all short_edge et ≡ true → short_edge (edge_at (SplitRightEdges et pt k) 0) ≡ true
      → all short_edge (SplitRightEdges et pt k) ≡ true
  unfolding SplitRightEdges all
  right_all_short h f = rw f (all_parts short_edge (CutoffForRight pt k + 1) et h).1

-- ---- tables with no edges: the cuts of pivots alone

-- no edge in each slot fits
pub no_edges_fit : (pt : PivotTable) (et : EdgeTable) → length et + 1 ≡ length pt → ((i : ℕ) → edge_at et i ≡ no_edge) → WFEdges et pt ≡ true
no_edges_fit pt et n f = say_edges et pt (record { count = n; fits = λ i h. rw (f i) })

-- edges none of which is there are short
none_short : (et : EdgeTable) → ((i : ℕ) → edge_at et i ≡ no_edge) → all short_edge et ≡ true
unfolding all
none_short [] f = refl
none_short (x ∷ et) f = rw (f 0) (none_short et (λ i. f (suc i)))

-- edges none of which is there are short in each cut
pub no_edges_short : (left : Bool) (pt : PivotTable) (et : EdgeTable) (k : Key) → ((i : ℕ) → edge_at et i ≡ no_edge)
    → all short_edge (SplitEdges left et pt k) ≡ true
unfolding SplitLeftEdges SplitRightEdges edge_within cut_edge all
no_edges_short true pt et k f =
    let c = CutoffForLeft pt k in
    rw (all_append short_edge (take c et) _, (all_parts short_edge c et (none_short et f)).0, f c)
no_edges_short false pt et k f = rw (f (CutoffForRight pt k)) (all_parts short_edge (CutoffForRight pt k + 1) et (none_short et f)).1
