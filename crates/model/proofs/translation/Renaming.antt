-- Pivots and edges under another prefix: the clauses of TranslatePivots and TranslateEdges, place by place.
use mathlib.Core.Path.{◌≡◌, refl, sym, ap, ◌∙◌}
use mathlib.Core.Bool.{true, false≢true}
use mathlib.Core.List.{List, [], ◌∷◌, map}
use mathlib.Core.Logic.{⊎_elim}
use Prim.Native.Nat.{ℕ, zero, suc, ◌+◌, ◌-◌, ◌≤◌, ◌<◌}
use native.Mathlib.Numerals.{add-one}
use native.Mathlib.Omega.{arith}
use borrow.Author.Tests.{le-leb}
use lib.ListN.{length, take, drop, length-append, length-drop, length-map, get_or-append}
use lib.Seq.{length-take-le, take_all, drop-append-le, get_or-take, get_or_at}
use Rattle.model.specs.keys.Key.{Key, max_len, IsPrefix, change_prefix}
use Rattle.model.specs.keys.Order.{Element, key, max, is_key, lt}
use Rattle.model.specs.records.Record.{Edge, edge, no_edge}
use Rattle.model.specs.ranges.RangePrefix.{PivotLcp}
use Rattle.model.specs.tables.Tables.{PivotTable, EdgeTable, NumBuckets, pivot_at, edge_at, last_pivot, key_of, all, short_element, short_edge, IsStrictlySorted, WFPivots}
use Rattle.model.specs.translation.Renaming.{TranslateElement, TranslatePivots, filled, edges_from, TranslateEdges}
use Rattle.model.proofs.Lists.{get_d_map, le_or_lt}
use Rattle.model.proofs.keys.Key.{both}
use Rattle.model.proofs.keys.ChangePrefix.{change_begins, change_lt}
use Rattle.model.proofs.tables.Places.{sorted_at, sorted_of}
use Rattle.model.proofs.tables.Routing.{wf_of, wf_sorted, wf_keys, wf_count}
use Rattle.model.proofs.tables.SlotPrefix.{range_prefix_short}
use Rattle.model.proofs.translation.PivotPair.{element_back}

-- ---- TranslatePivots

module _ (pt : PivotTable) (p q : Key) (end : Element) where
  moved : PivotTable
  moved = map (TranslateElement p q) (take (NumBuckets pt) pt)

  length_moved : length moved ≡ NumBuckets pt
  unfolding moved
  length_moved = length-map (take (NumBuckets pt) pt) (TranslateElement p q) ∙ length-take-le (NumBuckets pt) pt (omega arith)

  -- the end stands last
  pub pivots_end : pivot_at (TranslatePivots pt p q end) (NumBuckets pt) ≡ end
  unfolding TranslatePivots moved
  pivots_end = get_or_at moved end [] max (NumBuckets pt) length_moved

  -- before it stands each pivot but the last, translated
  pub pivots_at : (i : ℕ) → i < NumBuckets pt → pivot_at (TranslatePivots pt p q end) i ≡ TranslateElement p q (pivot_at pt i)
  unfolding TranslatePivots moved
  pivots_at i h =
      get_or-append moved (end ∷ []) max i (omega (arith, length_moved))
      ∙ get_d_map (TranslateElement p q) (take (NumBuckets pt) pt) i max max (omega (arith, length-take-le (NumBuckets pt) pt (omega arith)))
      ∙ ap (TranslateElement p q) (get_or-take (NumBuckets pt) pt i max h)

  -- there are as many as before
  pub pivots_count : 0 < length pt → length (TranslatePivots pt p q end) ≡ length pt
  unfolding TranslatePivots moved
  pivots_count h = omega (arith, length-append moved (end ∷ []), length_moved)

  -- the last translated pivot is the end
  pub pivots_last : 0 < length pt → last_pivot (TranslatePivots pt p q end) ≡ end
  pivots_last h = rw (pivots_count h) pivots_end

-- the pivot at a place is a key that begins with the prefix
module _ (pt : PivotTable) (p q : Key) (end : Element) (w : WFPivots pt ≡ true)
    (f : (i : ℕ) → i < NumBuckets pt → IsPrefix p (key_of (pivot_at pt i)) ≡ true) where
  key_there : (i : ℕ) → i < NumBuckets pt → pivot_at pt i ≡ key (key_of (pivot_at pt i))
  key_there i h = go (pivot_at pt i) (wf_keys pt w i h)
    where
      go : (x : Element) → is_key x ≡ true → x ≡ key (key_of x)
      go (key k) e = refl
      go max e = absurd (false≢true e)

  moved_there : (i : ℕ) → i < NumBuckets pt → pivot_at (TranslatePivots pt p q end) i ≡ key (change_prefix p q (key_of (pivot_at pt i)))
  moved_there i h = pivots_at pt p q end i h ∙ (rw (key_there i h) (unfold TranslateElement in refl))

  -- each but the last is a key
  pub pivots_keys : (i : ℕ) → i < NumBuckets pt → is_key (pivot_at (TranslatePivots pt p q end) i) ≡ true
  pivots_keys i h = rw (moved_there i h)

  -- which begins with the new prefix
  pub pivots_begin : (i : ℕ) → i < NumBuckets pt → IsPrefix q (key_of (pivot_at (TranslatePivots pt p q end) i)) ≡ true
  pivots_begin i h = rw (moved_there i h) (change_begins p q (key_of (pivot_at pt i)))

  -- a translated pivot, translated back, is the pivot
  pub pivots_back : (i : ℕ) → i < NumBuckets pt → TranslateElement q p (pivot_at (TranslatePivots pt p q end) i) ≡ pivot_at pt i
  pivots_back i h =
      ap (TranslateElement q p) (pivots_at pt p q end i h ∙ ap (TranslateElement p q) (key_there i h))
      ∙ element_back p q (key_of (pivot_at pt i)) (f i h) ∙ sym (key_there i h)

  -- ---- given an end above the last translated key

  module _ (e : lt (TranslateElement p q (pivot_at pt (NumBuckets pt - 1))) end ≡ true) where
    some_pivots : 2 ≤ length pt
    some_pivots = wf_count pt w

    next_inside : (i : ℕ) → i + 1 < NumBuckets pt → lt (pivot_at (TranslatePivots pt p q end) i) (pivot_at (TranslatePivots pt p q end) (i + 1)) ≡ true
    next_inside i h =
        let a = f i (omega arith) in
        let b = f (i + 1) h in
        let s = sorted_at pt i (i + 1) (wf_sorted pt w) (omega arith) (omega arith) in
        rw (moved_there i (omega arith), moved_there (i + 1) h)
        (change_lt p q (key_of (pivot_at pt i)) (key_of (pivot_at pt (i + 1))) a b ∙ (rw (key_there i (omega arith), key_there (i + 1) h) at s))

    next_end : (i : ℕ) → i + 1 ≡ NumBuckets pt → lt (pivot_at (TranslatePivots pt p q end) i) (pivot_at (TranslatePivots pt p q end) (i + 1)) ≡ true
    next_end i h =
        let j : NumBuckets pt - 1 ≡ i = omega arith in
        rw (h, pivots_end pt p q end, pivots_at pt p q end i (omega arith)) (rw j at e)

    -- the translated pivots rise
    pub pivots_rise : IsStrictlySorted (TranslatePivots pt p q end) ≡ true
    pivots_rise = sorted_of (TranslatePivots pt p q end) each
      where
        each : (i : ℕ) → i + 1 < length (TranslatePivots pt p q end) → lt (pivot_at (TranslatePivots pt p q end) i) (pivot_at (TranslatePivots pt p q end) (i + 1)) ≡ true
        each i h =
            let n = pivots_count pt p q end (omega (arith, some_pivots)) in
            ⊎_elim (λ (l : NumBuckets pt ≤ i + 1). next_end i (omega (arith, n))) (λ (l : i + 1 < NumBuckets pt). next_inside i l) (le_or_lt (NumBuckets pt) (i + 1))

    -- translated pivots none of which passes 64 bytes are well formed
    pub pivots_wf : all short_element (TranslatePivots pt p q end) ≡ true → WFPivots (TranslatePivots pt p q end) ≡ true
    pivots_wf s = wf_of (TranslatePivots pt p q end) pivots_rise s (omega (arith, pivots_count pt p q end (omega (arith, some_pivots)), some_pivots))

-- dropping images is taking images of what is left
drop_map : {A B : Type 0} (f : A → B) (n : ℕ) (xs : List A) → drop n (map f xs) ≡ map f (drop n xs)
drop_map f zero xs = refl
drop_map f (suc n) [] = refl
drop_map f (suc n) (x ∷ xs) = drop_map f n xs

-- what is left of the first m after n of them
drop_take : {A : Type 0} (n m : ℕ) (xs : List A) → drop n (take m xs) ≡ take (m - n) (drop n xs)
drop_take zero m xs = let z : m - 0 ≡ m = omega arith in rw z
drop_take (suc n) zero xs = let z : 0 - suc n ≡ 0 = omega arith in rw z
drop_take (suc n) (suc m) [] = sym (take_all (suc m - suc n) [] (omega arith))
drop_take (suc n) (suc m) (x ∷ xs) = let z : suc m - suc n ≡ m - n = omega arith in rw z (drop_take n m xs)

-- the source translates from a place idx on: the same as translating all and passing those before it
pub pivots_from : (pt : PivotTable) (p q : Key) (end : Element) (i : ℕ) → i < NumBuckets pt
    → TranslatePivots (drop i pt) p q end ≡ drop i (TranslatePivots pt p q end)
unfolding TranslatePivots
pivots_from pt p q end i h =
    let n : NumBuckets (drop i pt) ≡ NumBuckets pt - i = omega (arith, length-drop i pt) in
    let m : i ≤ length (take (NumBuckets pt) pt) = omega (arith, length-take-le (NumBuckets pt) pt (omega arith)) in
    let l : i ≤ length (map (TranslateElement p q) (take (NumBuckets pt) pt)) = omega (arith, length-map (take (NumBuckets pt) pt) (TranslateElement p q)) in
    rw (n, drop-append-le i (map (TranslateElement p q) (take (NumBuckets pt) pt)) (end ∷ []) l, drop_map (TranslateElement p q) i (take (NumBuckets pt) pt), drop_take i (NumBuckets pt) pt)

-- ---- TranslateEdges

edges_at_from : (x : Element) (pt : PivotTable) (et : EdgeTable) (i : ℕ) → length et ≡ length pt → i < length et
    → edge_at (edges_from x pt et) i ≡ filled (PivotLcp (pivot_at (x ∷ pt) i) (pivot_at (x ∷ pt) (suc i))) (edge_at et i)
unfolding edges_from
edges_at_from x [] [] i n h = absurd (omega arith)
edges_at_from x [] (e ∷ et) i n h = absurd (omega arith)
edges_at_from x (y ∷ pt) [] i n h = absurd (omega arith)
edges_at_from x (y ∷ pt) (e ∷ et) zero n h = refl
edges_at_from x (y ∷ pt) (e ∷ et) (suc i) n h = edges_at_from y pt et i (omega arith) (omega arith)

length_from : (x : Element) (pt : PivotTable) (et : EdgeTable) → length et ≡ length pt → length (edges_from x pt et) ≡ length et
unfolding edges_from
length_from x [] [] n = refl
length_from x [] (e ∷ et) n = absurd (omega arith)
length_from x (y ∷ pt) [] n = absurd (omega arith)
length_from x (y ∷ pt) (e ∷ et) n = let r = length_from y pt et (omega arith) in omega arith

-- edges on pivots, one more than edges
module _ (et : EdgeTable) (pt : PivotTable) (n : length et + 1 ≡ length pt) where
  -- there are as many as before
  pub edges_count : length (TranslateEdges et pt) ≡ length et
  edges_count = go pt n
    where
      go : (pt : PivotTable) → length et + 1 ≡ length pt → length (TranslateEdges et pt) ≡ length et
      go [] n = absurd (omega arith)
      go (x ∷ pt) n = unfold TranslateEdges in length_from x pt et (omega arith)

  module _ (i : ℕ) (h : i < length et) where
    -- each is filled at its slot
    pub edges_at : edge_at (TranslateEdges et pt) i ≡ filled (PivotLcp (pivot_at pt i) (pivot_at pt (i + 1))) (edge_at et i)
    edges_at = rw add-one (go pt n)
      where
        go : (pt : PivotTable) → length et + 1 ≡ length pt → edge_at (TranslateEdges et pt) i ≡ filled (PivotLcp (pivot_at pt i) (pivot_at pt (suc i))) (edge_at et i)
        go [] n = absurd (omega arith)
        go (x ∷ pt) n = unfold TranslateEdges in edges_at_from x pt et i (omega arith) h

    -- an edge stays
    pub edges_kept : (q : Key) → edge_at et i ≡ edge q → edge_at (TranslateEdges et pt) i ≡ edge q
    unfolding filled
    edges_kept q e = edges_at ∙ rw e

    -- an absent one is filled with the prefix of the slot's range
    pub edges_filled : edge_at et i ≡ no_edge → edge_at (TranslateEdges et pt) i ≡ edge (PivotLcp (pivot_at pt i) (pivot_at pt (i + 1)))
    unfolding filled
    edges_filled e = edges_at ∙ rw e

filled_short : (p : Key) (e : Edge) → length p ≤ max_len → short_edge e ≡ true → short_edge (filled p e) ≡ true
unfolding filled
filled_short p (edge q) h j = j
filled_short p no_edge h j = le-leb (length p) max_len h

-- edges and pivots of at most 64 bytes leave edges of at most 64 bytes
short_from : (x : Element) (pt : PivotTable) (et : EdgeTable) → short_element x ≡ true → all short_element pt ≡ true → all short_edge et ≡ true
    → all short_edge (edges_from x pt et) ≡ true
unfolding edges_from all
short_from x [] et h j k = refl
short_from x (y ∷ pt) [] h j k = refl
short_from x (y ∷ pt) (e ∷ et) h j k =
    let a = both (short_element y) (all short_element pt) j in
    let b = both (short_edge e) (all short_edge et) k in
    rw (filled_short (PivotLcp x y) e (range_prefix_short x y h) b.0) (short_from y pt et a.0 a.1 b.1)

pub edges_short : (et : EdgeTable) (pt : PivotTable) → all short_element pt ≡ true → all short_edge et ≡ true → all short_edge (TranslateEdges et pt) ≡ true
unfolding TranslateEdges all
edges_short et [] h j = refl
edges_short et (x ∷ pt) h j = let a = both (short_element x) (all short_element pt) h in short_from x pt et a.0 a.1 j

-- translating the edges from a place on is translating all and passing those before it
pub edges_from_lem : (et : EdgeTable) (pt : PivotTable) (i : ℕ) → length et + 1 ≡ length pt → i ≤ length et
    → TranslateEdges (drop i et) (drop i pt) ≡ drop i (TranslateEdges et pt)
unfolding TranslateEdges edges_from
edges_from_lem et pt zero n h = refl
edges_from_lem et [] (suc i) n h = absurd (omega arith)
edges_from_lem [] (x ∷ pt) (suc i) n h = absurd (omega arith)
edges_from_lem (e ∷ et) (x ∷ []) (suc i) n h = absurd (omega arith)
edges_from_lem (e ∷ et) (x ∷ y ∷ pt) (suc i) n h = edges_from_lem et (y ∷ pt) i (omega arith) (omega arith)
