-- The left and the right cut of pivots: each is the cut to a range, is well formed, and routes the keys that it keeps as the table does.
use mathlib.Core.Path.{◌≡◌, refl, sym, ◌∙◌}
use mathlib.Core.Bool.{Bool, true, false, ◌&&◌, and-true, and-false}
use mathlib.Core.List.{List, [], ◌∷◌, ◌++◌}
use Prim.Native.Nat.{ℕ, zero, suc, ◌+◌, ◌-◌, ◌≤◌, ◌<◌}
use native.Mathlib.Omega.{arith}
use borrow.Author.Tests.{le-leb}
use lib.ListN.{length, take, drop, get_or, length-append, length-drop, get_or-append}
use lib.Seq.{take-suc, take_all, drop-append-le, length-take-le, get_or-take, get_or-drop, get_or_at}
use Rattle.model.specs.keys.Key.{Key, Bytes, max_len}
use Rattle.model.specs.keys.Order.{key, max, lte, lt, LargestLte}
use Rattle.model.specs.tables.Tables.{PivotTable, NumBuckets, pivot_at, last_pivot, short_element, WFPivots, BytesT}
use Rattle.model.specs.tables.Tables.{BoundedKey, ValidLeftCutOffKey, Route, CutoffForLeft, CutoffForRight}
use Rattle.model.specs.cuts.Cuts.{SplitLeft, SplitRight}
use Rattle.model.proofs.Lists.{all_at}
use Rattle.model.proofs.keys.Order.{lte_refl, lte_trans, lt_trans_lte}
use Rattle.model.proofs.keys.Key.{both}
use Rattle.model.proofs.cuts.Between.{bytes_at}
use Rattle.model.proofs.tables.Slots.{Table, wf_says, says_wf, Inside, inside_left, between_inside, slot_itself, slot_from, slot_upto}
use Rattle.model.proofs.cuts.Ranges.{cut_to, Spans, cut_first, cut_last, cut_bounded, cut_bytes_lem, cut_table, cut_slot, cut_route, cut_wf}

-- the first pivot, and what of the first n follows it
first_rest : {A : Type 0} (d : A) (n : ℕ) (l : List A) → 0 < n → 0 < length l → get_or l 0 d ∷ drop 1 (take n l) ≡ take n l
first_rest d n [] h k = absurd (omega arith)
first_rest d zero (x ∷ l) h k = absurd (omega arith)
first_rest d (suc n) (x ∷ l) h k = refl

-- the pivots before the last, and the last
rest_last : (pt : PivotTable) → 0 < length pt → take (NumBuckets pt) pt ++ (last_pivot pt ∷ []) ≡ pt
rest_last pt h =
    sym (take-suc pt (NumBuckets pt) max (omega arith)) ∙ take_all (suc (NumBuckets pt)) pt (omega arith)

module _ {pt : PivotTable} (t : Table pt) (k : Key) where
  module _ (v : ValidLeftCutOffKey pt k ≡ true) where
    -- the range that the left cut keeps
    pub left_spans : Spans pt (pivot_at pt 0) (key k)
    unfolding ValidLeftCutOffKey
    left_spans =
        let i = both (lt (pivot_at pt 0) (key k)) (lte (key k) (last_pivot pt)) v in
        record { table = t; from = lte_refl (pivot_at pt 0); rises = i.0; upto = i.1 }

    -- its last slot
    pub left_slot : Inside pt (CutoffForLeft pt k) (pivot_at pt (CutoffForLeft pt k)) (key k)
    unfolding CutoffForLeft
    left_slot = slot_upto t (key k) left_spans.rises left_spans.upto

    -- the left cut is the cut to that range
    pub left_is_cut : SplitLeft pt k ≡ cut_to pt (pivot_at pt 0) (key k)
    unfolding SplitLeft cut_to
    left_is_cut =
        let first = slot_itself t 0 t.many in
        rw (between_inside t first left_slot, ← first_rest max (CutoffForLeft pt k + 1) pt (omega arith) (omega (arith, t.many)))

    -- it rises
    pub left_table : Table (SplitLeft pt k)
    left_table = rw left_is_cut (cut_table left_spans)

    -- it has one pivot more than it keeps
    pub left_length : length (SplitLeft pt k) ≡ CutoffForLeft pt k + 2
    unfolding SplitLeft
    left_length =
        let s = left_slot.slot in
        rw (length-append, length-take-le (CutoffForLeft pt k + 1) pt (omega arith)) (omega arith)

    -- it keeps the pivots up to the cutoff
    pub left_at : (i : ℕ) → i ≤ CutoffForLeft pt k → pivot_at (SplitLeft pt k) i ≡ pivot_at pt i
    unfolding SplitLeft
    left_at i h =
        let s = left_slot.slot in
        let l = length-take-le (CutoffForLeft pt k + 1) pt (omega arith) in
        get_or-append (take (CutoffForLeft pt k + 1) pt) (key k ∷ []) max i (omega arith)
        ∙ get_or-take (CutoffForLeft pt k + 1) pt i max (omega arith)

    -- the left cut ends with k
    pub left_end : pivot_at (SplitLeft pt k) (CutoffForLeft pt k + 1) ≡ key k
    unfolding SplitLeft
    left_end =
        let c = CutoffForLeft pt k in
        get_or_at (take (c + 1) pt) (key k) [] max (c + 1) (length-take-le (c + 1) pt (omega (arith, left_slot.slot)))

  module _ (v : BoundedKey pt k ≡ true) where
    -- the range that the right cut keeps
    pub right_spans : Spans pt (key k) (last_pivot pt)
    unfolding BoundedKey
    right_spans =
        let i = both (lte (pivot_at pt 0) (key k)) (lt (key k) (last_pivot pt)) v in
        record { table = t; from = i.0; rises = i.1; upto = lte_refl (last_pivot pt) }

    -- its first slot
    pub right_slot : Inside pt (CutoffForRight pt k) (key k) (pivot_at pt (CutoffForRight pt k + 1))
    unfolding CutoffForRight Route
    right_slot = slot_from t (key k) right_spans.from right_spans.rises

    -- the right cut is the cut to that range
    pub right_is_cut : SplitRight pt k ≡ cut_to pt (key k) (last_pivot pt)
    unfolding SplitRight cut_to
    right_is_cut =
        let c = CutoffForRight pt k in
        let m = t.many in
        let n : NumBuckets pt - 1 + 1 ≡ NumBuckets pt = omega arith in
        let last = rw n at (slot_itself t (NumBuckets pt - 1) (omega arith)) in
        let l = length-take-le (NumBuckets pt) pt (omega arith) in
        let e = drop-append-le (c + 1) (take (NumBuckets pt) pt) (last_pivot pt ∷ []) (omega (arith, right_slot.slot)) in
        rw (between_inside t right_slot last, n, ← e, rest_last pt (omega arith))

    -- it rises
    pub right_table : Table (SplitRight pt k)
    right_table = rw right_is_cut (cut_table right_spans)

    -- it has as many pivots as stand from the cutoff on
    pub right_length : length (SplitRight pt k) ≡ length pt - CutoffForRight pt k
    unfolding SplitRight
    right_length = rw length-drop (omega (arith, right_slot.slot))

    -- it keeps the pivots after the cutoff
    pub right_at : (i : ℕ) → pivot_at (SplitRight pt k) (suc i) ≡ pivot_at pt (CutoffForRight pt k + 1 + i)
    unfolding SplitRight
    right_at i = get_or-drop (CutoffForRight pt k + 1) pt i max

-- ---- one cut

module _ (pt : PivotTable) (k : Key) (w : WFPivots pt ≡ true) where
  t : Table pt
  t = (wf_says pt w).table

  module _ (v : ValidLeftCutOffKey pt k ≡ true) where
    -- the left cut is well formed
    pub split_left_wf : length k ≤ max_len → WFPivots (SplitLeft pt k) ≡ true
    split_left_wf h =
        let e = all_at short_element pt 0 max refl (wf_says pt w).short in
        rw (left_is_cut t k v)
        (says_wf (cut_to pt (pivot_at pt 0) (key k)) (cut_wf (left_spans t k v) (wf_says pt w) e (le-leb (length k) max_len h)))

    -- two at least
    pub split_left_many : 2 ≤ length (SplitLeft pt k)
    split_left_many = omega (arith, left_length t k v)

    -- the left cut has no more pivots than the table
    pub split_left_most : length (SplitLeft pt k) ≤ length pt
    split_left_most = omega (arith, left_length t k v, (left_slot t k v).slot)

    -- it is of bytes
    pub split_left_bytes : BytesT pt → Bytes k → BytesT (SplitLeft pt k)
    split_left_bytes b h = rw (left_is_cut t k v) (cut_bytes_lem pt (pivot_at pt 0) (key k) b (bytes_at pt 0 b) h)

    -- it begins as before
    pub split_left_first : pivot_at (SplitLeft pt k) 0 ≡ pivot_at pt 0
    split_left_first = rw (left_is_cut t k v) (cut_first pt (pivot_at pt 0) (key k))

    -- it ends with k
    pub split_left_last : last_pivot (SplitLeft pt k) ≡ key k
    split_left_last = rw (left_is_cut t k v) (cut_last pt (pivot_at pt 0) (key k))

    module _ (j : Key) where
      -- a key is bounded in it where it is bounded and below k
      pub split_left_bounded : BoundedKey (SplitLeft pt k) j ≡ (BoundedKey pt j && lt (key j) (key k))
      unfolding BoundedKey
      split_left_bounded =
          rw (left_is_cut t k v, cut_bounded pt (pivot_at pt 0) (key k)) (go (lte (pivot_at pt 0) (key j)) (lt (key j) (key k)) refl)
        where
          go : (s u : Bool) → lt (key j) (key k) ≡ u → (s && u) ≡ ((s && lt (key j) (last_pivot pt)) && u)
          go true true e = rw (lt_trans_lte (key j) (key k) (last_pivot pt) e (left_spans t k v).upto)
          go true false e = sym (and-false (lt (key j) (last_pivot pt)))
          go false u e = refl

      -- its slot is the old one
      pub split_left_route : BoundedKey (SplitLeft pt k) j ≡ true → Route (SplitLeft pt k) j ≡ Route pt j
      split_left_route h =
          let h' = rw (left_is_cut t k v) at h in
          let i = Route (SplitLeft pt k) j in
          let s : i + 1 < length (SplitLeft pt k) = rw (left_is_cut t k v) (cut_slot (left_spans t k v) j h').slot in
          let n = left_length t k v in
          let m = (left_slot t k v).slot in
          sym (inside_left t (slot_itself t i (omega arith)))
          ∙ rw (← left_at t k v i (omega arith), left_is_cut t k v) (cut_route (left_spans t k v) j h')

  module _ (v : BoundedKey pt k ≡ true) where
    -- the right cut is well formed
    pub split_right_wf : length k ≤ max_len → WFPivots (SplitRight pt k) ≡ true
    split_right_wf h =
        let e = all_at short_element pt (NumBuckets pt) max refl (wf_says pt w).short in
        rw (right_is_cut t k v)
        (says_wf (cut_to pt (key k) (last_pivot pt)) (cut_wf (right_spans t k v) (wf_says pt w) (le-leb (length k) max_len h) e))

    -- two at least
    pub split_right_many : 2 ≤ length (SplitRight pt k)
    split_right_many = omega (arith, right_length t k v, (right_slot t k v).slot)

    -- the right cut has no more pivots than the table
    pub split_right_most : length (SplitRight pt k) ≤ length pt
    split_right_most = omega (arith, right_length t k v)

    -- it is of bytes
    pub split_right_bytes : BytesT pt → Bytes k → BytesT (SplitRight pt k)
    split_right_bytes b h = rw (right_is_cut t k v) (cut_bytes_lem pt (key k) (last_pivot pt) b h (bytes_at pt (NumBuckets pt) b))

    -- it begins with k
    pub split_right_first : pivot_at (SplitRight pt k) 0 ≡ key k
    split_right_first = rw (right_is_cut t k v) (cut_first pt (key k) (last_pivot pt))

    -- it ends as before
    pub split_right_last : last_pivot (SplitRight pt k) ≡ last_pivot pt
    split_right_last = rw (right_is_cut t k v) (cut_last pt (key k) (last_pivot pt))

    module _ (j : Key) where
      -- a key is bounded in it where it is bounded and not below k
      pub split_right_bounded : BoundedKey (SplitRight pt k) j ≡ (BoundedKey pt j && lte (key k) (key j))
      unfolding BoundedKey
      split_right_bounded =
          rw (right_is_cut t k v, cut_bounded pt (key k) (last_pivot pt)) (go (lte (key k) (key j)) (lt (key j) (last_pivot pt)) refl)
        where
          go : (s u : Bool) → lte (key k) (key j) ≡ s → (s && u) ≡ ((lte (pivot_at pt 0) (key j) && u) && s)
          go true u e = rw (lte_trans (pivot_at pt 0) (key k) (key j) (right_spans t k v).from e, and-true u)
          go false u e = sym (and-false (lte (pivot_at pt 0) (key j) && u))

      -- its slot is the old one, counted from the cutoff
      pub split_right_route : BoundedKey (SplitRight pt k) j ≡ true → Route (SplitRight pt k) j + CutoffForRight pt k ≡ Route pt j
      split_right_route h =
          let h' = rw (right_is_cut t k v) at h in
          let i = Route (SplitRight pt k) j in
          let s : i + 1 < length (SplitRight pt k) = rw (right_is_cut t k v) (cut_slot (right_spans t k v) j h').slot in
          sym (old i s) ∙ rw (right_is_cut t k v) (cut_route (right_spans t k v) j h')
        where
          old : (i : ℕ) → i + 1 < length (SplitRight pt k) → LargestLte pt (pivot_at (SplitRight pt k) i) ≡ i + CutoffForRight pt k
          old zero h = rw split_right_first (omega (arith, inside_left t (right_slot t k v)))
          old (suc i) h =
              let n = right_length t k v in
              let e = inside_left t (slot_itself t (CutoffForRight pt k + 1 + i) (omega arith)) in
              rw (right_at t k v i) (omega arith)
