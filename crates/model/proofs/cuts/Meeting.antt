-- Two tables that meet, the first ending with the key that the second begins with: together they are a table, whose cuts at that key are the two.
use mathlib.Core.Path.{◌≡◌, refl, sym, ap, ◌∙◌}
use mathlib.Core.Bool.{Bool, true, false, ◌&&◌, and-true}
use mathlib.Core.List.{[], ◌∷◌, ◌++◌}
use Prim.Native.Nat.{ℕ, suc, ◌+◌, ◌-◌, ◌≤◌}
use native.Mathlib.Numerals.{add-one}
use native.Mathlib.Omega.{arith}
use borrow.Author.Tests.{eq-eqb}
use lib.Dec.{eqb}
use lib.ListN.{length, drop, length-append}
use lib.Seq.{take-append_seam, drop-append_seam, get_or_at}
use Rattle.model.specs.keys.Key.{Key}
use Rattle.model.specs.keys.Order.{Element, key, max, lt}
use Rattle.model.specs.ranges.RangePrefix.{PivotLcp}
use Rattle.model.specs.tables.Tables.{PivotTable, EdgeTable, pivot_at, all, short_element, rises_from, IsStrictlySorted, WFPivots, edge_fits, edges_fit, WFEdges, BytesT, CutoffForLeft, CutoffForRight}
use Rattle.model.specs.cuts.Cuts.{SplitLeft, SplitRight}
use Rattle.model.specs.cuts.Sides.{inside, Split, SplitEdges}
use Rattle.model.proofs.Lists.{all_append}
use Rattle.model.proofs.keys.Order.{lte_refl}
use Rattle.model.proofs.keys.Key.{both}
use Rattle.model.proofs.tables.Places.{sorted_at}
use Rattle.model.proofs.tables.Routing.{wf_sorted, slot_bounded, slot_is_route, cutoff_right_is_route, cutoff_left_valid, cutoff_left_is}
use Rattle.model.proofs.tables.Slots.{wf_says, says_wf}
use Rattle.model.proofs.cuts.CutEdges.{edges_say}
use Rattle.model.proofs.cuts.SplitEdges.{split_left_pivot, split_right_pivot}

-- ---- lists

and_assoc : (a b c : Bool) → (a && (b && c)) ≡ ((a && b) && c)
and_assoc true b c = refl
and_assoc false b c = refl

module _ (m : Element) (bs : PivotTable) where
  -- the whole rises where both do
  meet_rises : (p : Element) (xs : PivotTable) → rises_from p (xs ++ (m ∷ bs)) ≡ (rises_from p (xs ++ (m ∷ [])) && rises_from m bs)
  unfolding rises_from
  meet_rises p [] = rw and-true
  meet_rises p (q ∷ xs) = rw (meet_rises q xs) (and_assoc (lt p q) _ _)

  -- and its edges fit where both's do
  meet_fit : (p : Element) (xs : PivotTable) (es fs : EdgeTable) → length es ≡ length xs + 1
      → edges_fit p (xs ++ (m ∷ bs)) (es ++ fs) ≡ (edges_fit p (xs ++ (m ∷ [])) es && edges_fit m bs fs)
  unfolding edges_fit
  meet_fit p xs [] fs n = absurd (omega arith)
  meet_fit p [] (e ∷ []) fs n = rw and-true
  meet_fit p [] (e ∷ f ∷ es) fs n = absurd (omega arith)
  meet_fit p (q ∷ xs) (e ∷ es) fs n = rw (meet_fit q xs es fs (omega arith)) (and_assoc (edge_fits (PivotLcp p q) e) _ _)

  -- the whole is of bytes where both are
  meet_bytes : (xs : PivotTable) → BytesT (xs ++ (m ∷ [])) → BytesT (m ∷ bs) → BytesT (xs ++ (m ∷ bs))
  meet_bytes [] b c = c
  meet_bytes (x ∷ xs) b c = (b.0, meet_bytes xs b.1 c)

-- ---- tables

-- the pivots before k and behind it, and the edges of the two tables
pub record Meeting (xs : PivotTable) (k : Key) (ys : PivotTable) (es fs : EdgeTable) : Type 0 where
  pub first_wf : WFPivots (xs ++ (key k ∷ [])) ≡ true
  pub second_wf : WFPivots (key k ∷ ys) ≡ true
  pub first_edges : WFEdges es (xs ++ (key k ∷ [])) ≡ true
  pub second_edges : WFEdges fs (key k ∷ ys) ≡ true

-- the first or the second of the two
abbrev pub half : Bool → PivotTable → Key → PivotTable → PivotTable
half true xs k ys = xs ++ (key k ∷ [])
half false xs k ys = key k ∷ ys

abbrev pub half_edges : Bool → EdgeTable → EdgeTable → EdgeTable
half_edges true es fs = es
half_edges false es fs = fs

module _ {xs : PivotTable} {k : Key} {ys : PivotTable} {es fs : EdgeTable} (w : Meeting xs k ys es fs) where
  abbrev whole : PivotTable
  whole = xs ++ (key k ∷ ys)

  first_count : 1 ≤ length xs
  first_count = omega (arith, (wf_says _ w.first_wf).table.many, length-append xs (key k ∷ []))

  second_count : 1 ≤ length ys
  second_count = omega (arith, (wf_says _ w.second_wf).table.many)

  first_slots : length es ≡ length xs
  first_slots = omega (arith, (edges_say _ _ w.first_edges).count, length-append xs (key k ∷ []))

  second_slots : length fs ≡ length ys
  second_slots = omega (arith, (edges_say _ _ w.second_edges).count)

  pub whole_length : length whole ≡ length xs + 1 + length ys
  whole_length = omega (arith, length-append xs (key k ∷ ys))

  -- together they are well formed
  pub whole_wf : WFPivots whole ≡ true
  unfolding IsStrictlySorted all
  whole_wf = says_wf whole (record { table = record { sorted = sorted xs first_count (wf_sorted _ w.first_wf); many = many }; short = short })
    where
      many : 2 ≤ length whole
      many = omega (arith, whole_length, first_count)

      sorted : (zs : PivotTable) → 1 ≤ length zs → IsStrictlySorted (zs ++ (key k ∷ [])) ≡ true → IsStrictlySorted (zs ++ (key k ∷ ys)) ≡ true
      sorted [] h s = absurd (omega arith)
      sorted (z ∷ zs) h s = meet_rises (key k) ys z zs ∙ rw (s, wf_sorted _ w.second_wf)

      short : all short_element whole ≡ true
      short =
          let a = both (all short_element xs) _ (sym (all_append short_element xs (key k ∷ [])) ∙ (wf_says _ w.first_wf).short) in
          all_append short_element xs (key k ∷ ys) ∙ rw (a.0, (wf_says _ w.second_wf).short)

  -- the edges of the whole are well formed
  pub whole_edges_wf : WFEdges (es ++ fs) whole ≡ true
  unfolding WFEdges
  whole_edges_wf = go xs first_count first_slots w.first_edges
    where
      go : (zs : PivotTable) → 1 ≤ length zs → length es ≡ length zs → WFEdges es (zs ++ (key k ∷ [])) ≡ true → WFEdges (es ++ fs) (zs ++ (key k ∷ ys)) ≡ true
      go [] h n f = absurd (omega arith)
      go (z ∷ zs) h n f =
          let a = length-append es fs in
          let b = length-append zs (key k ∷ ys) in
          let c = second_slots in
          let fits = both (eqb (length es) (length (zs ++ (key k ∷ [])))) (edges_fit z (zs ++ (key k ∷ [])) es) f in
          rw (eq-eqb (length (es ++ fs)) (length (zs ++ (key k ∷ ys))) (omega arith), meet_fit (key k) ys z zs es fs (omega arith), fits.1)
          (both (eqb (length fs) (length ys)) (edges_fit (key k) ys fs) w.second_edges).1

  -- they are of bytes
  pub whole_bytes : BytesT (xs ++ (key k ∷ [])) → BytesT (key k ∷ ys) → BytesT whole
  whole_bytes = meet_bytes (key k) ys xs

  -- ---- the cuts at k

  -- k stands behind the pivots of the first
  meets_at : (i : ℕ) → i ≡ length xs → pivot_at whole i ≡ key k
  meets_at i e = get_or_at xs (key k) ys max i (sym e)

  -- the slot that ends with k
  abbrev before : ℕ
  before = length xs - 1

  step : before + 1 ≡ length xs
  step = let n = first_count in omega arith

  below : lt (pivot_at whole before) (key k) ≡ true
  below =
      let n = first_count in
      rw (meets_at (length xs) refl) at (sorted_at whole before (length xs) (wf_sorted whole whole_wf) (omega arith) (omega (arith, whole_length)))

  -- and the slot that begins with it
  above : lt (key k) (pivot_at whole (length xs + 1)) ≡ true
  above =
      let n = second_count in
      rw (meets_at (length xs) refl) at (sorted_at whole (length xs) (length xs + 1) (wf_sorted whole whole_wf) (omega arith) (omega (arith, whole_length)))

  -- the slots of the cuts at k, and that they are accepted
  pub whole_inside : (left : Bool) → inside left whole k ≡ true
  whole_inside true =
      let n = whole_length in
      cutoff_left_valid whole k whole_wf before (omega (arith, step, second_count)) below (rw (meets_at (before + 1) step) (lte_refl (key k)))
  whole_inside false =
      let n = whole_length in
      slot_bounded whole k whole_wf (length xs) (omega (arith, second_count)) (rw (meets_at (length xs) refl) (lte_refl (key k))) above

  cut_before : CutoffForLeft whole k ≡ before
  cut_before =
      let n = whole_length in
      sym (cutoff_left_is whole k whole_wf before (omega (arith, step, second_count)) below (rw (meets_at (before + 1) step) (lte_refl (key k))))

  cut_behind : CutoffForRight whole k ≡ length xs
  cut_behind =
      let n = whole_length in
      cutoff_right_is_route whole k
      ∙ sym (slot_is_route whole k whole_wf (length xs) (omega (arith, second_count)) (rw (meets_at (length xs) refl) (lte_refl (key k))) above)

  -- they are the two tables
  pub whole_split : (left : Bool) → Split left whole k ≡ half left xs k ys
  unfolding SplitLeft SplitRight
  whole_split true = rw (cut_before, step, take-append_seam)
  whole_split false = ap (◌∷◌ (key k)) (rw (cut_behind, add-one) (go xs))
    where
      go : (zs : PivotTable) → drop (suc (length zs)) (zs ++ (key k ∷ ys)) ≡ ys
      go [] = refl
      go (z ∷ zs) = go zs

  -- with their edges
  pub whole_split_edges : (left : Bool) → SplitEdges left (es ++ fs) whole k ≡ half_edges left es fs
  whole_split_edges true =
      split_left_pivot whole (es ++ fs) k whole_wf whole_edges_wf (whole_inside true) (rw (cut_before, meets_at (before + 1) step))
      ∙ rw (cut_before, step, ← first_slots, take-append_seam)
  whole_split_edges false =
      split_right_pivot whole (es ++ fs) k whole_wf whole_edges_wf (whole_inside false) (rw (cut_behind, meets_at (length xs) refl))
      ∙ rw (cut_behind, ← first_slots, drop-append_seam)
