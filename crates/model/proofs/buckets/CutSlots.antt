-- The list of the slots' buckets, of a cut table and the entries on its side: the cut slot's part of it, and the old list's other buckets.
use mathlib.Core.Path.{◌≡◌, refl, sym, ap, ◌∙◌}
use mathlib.Core.Bool.{Bool, true, false, not, ◌&&◌, true≢false}
use mathlib.Core.List.{List, [], ◌∷◌, ◌++◌, append-nil}
use Prim.Native.Nat.{ℕ, zero, suc, ◌+◌, ◌≤◌, ◌<◌}
use native.Mathlib.Omega.{arith}
use mathlib.Core.Logic.{⊎_elim}
use lib.ListN.{length, take, drop, get_or, length-append, length-drop, get_or-append, drop_of_length-le}
use lib.Seq.{drop-append-le, length-take-le, get_or-take, get_or-drop, get_or_at, ext_get_or}
use Rattle.model.specs.keys.Key.{Key, max_len}
use Rattle.model.specs.keys.Order.{Element, key, lte}
use Rattle.model.specs.tables.Tables.{PivotTable, NumBuckets, pivot_at, IsStrictlySorted, WFPivots, BoundedKey, ValidLeftCutOffKey, CutoffForLeft, CutoffForRight}
use Rattle.model.specs.cuts.Cuts.{SplitLeft, SplitRight}
use Rattle.model.specs.buckets.Bucket.{Entry, Bucket, entries_rise}
use Rattle.model.specs.buckets.Index.{only, is_below, entries_below, entries_from, slot_entries, slot_buckets, together}
use Rattle.model.specs.calls.IndexCalls.{entries_inside}
use Rattle.model.proofs.Lists.{le_or_lt}
use Rattle.model.proofs.keys.Order.{lt_lte}
use Rattle.model.proofs.tables.Places.{sorted_lte}
use Rattle.model.proofs.tables.Routing.{wf_sorted, route_inside, route_upper, route_from, cutoff_right_is_route, cutoff_left_inside, cutoff_left_lower, cutoff_left_reaches}
use Rattle.model.proofs.tables.Slots.{Table, wf_says}
use Rattle.model.proofs.cuts.Cuts.{left_length, left_at, left_end, right_length, right_at, split_right_first, split_left_wf, split_right_wf, split_left_route}
use Rattle.model.proofs.buckets.Below.{below_take, from_drop}
use Rattle.model.proofs.buckets.IndexBytes.{index_at}
use Rattle.model.proofs.buckets.Index.{only_both, only_alike, below_more, below_within, between_part, rise_take, rise_drop}
use Rattle.model.proofs.buckets.SlotBuckets.{slots_count, slots_at, slots_together}

-- a slot's part is the entries between its pivots
pub slot_between : (pt : PivotTable) (b : Bucket) → IsStrictlySorted pt ≡ true → entries_rise b ≡ true → (i : ℕ) → i < NumBuckets pt
    → slot_entries pt b i ≡ entries_from (pivot_at pt i) (entries_below (pivot_at pt (i + 1)) b)
unfolding slot_entries
slot_between pt b s r i h =
    rw (index_at pt b i (omega arith), index_at pt b (i + 1) (omega arith))
    (sym (between_part (pivot_at pt i) (pivot_at pt (i + 1)) (sorted_lte pt i (i + 1) s (omega arith) (omega arith)) b r))

-- ---- entries between two elements, on one side of a third

-- what passes one test and then a second and a third
only_three : (s t u : Entry → Bool) (b : Bucket) → only u (only t (only s b)) ≡ only (λ (e : Entry). s e && t e && u e) b
only_three s t u b = ap (only u) (sym (only_both s t b)) ∙ sym (only_both (λ (e : Entry). s e && t e) u b)

module _ (p q k : Element) (b : Bucket) where
  -- p isn't above k: from k on
  from_cut : lte p k ≡ true → entries_from k (entries_below q (entries_from k b)) ≡ entries_from k (entries_from p (entries_below q b))
  unfolding entries_from entries_below
  from_cut h =
      only_three (λ (e : Entry). not (is_below k e)) (is_below q) (λ (e : Entry). not (is_below k e)) b
      ∙ only_alike (λ (e : Entry). not (is_below k e) && is_below q e && not (is_below k e)) (λ (e : Entry). is_below q e && not (is_below p e) && not (is_below k e)) b
      (λ i d l. each (is_below p (get_or b i d)) (is_below q (get_or b i d)) (is_below k (get_or b i d)) (below_more p k h (get_or b i d)))
      ∙ sym (only_three (is_below q) (λ (e : Entry). not (is_below p e)) (λ (e : Entry). not (is_below k e)) b)
    where
      each : (a c d : Bool) → (a ≡ true → d ≡ true) → (not d && c && not d) ≡ (c && not a && not d)
      each true c true f = rw (and_false_twice c)
        where
          and_false_twice : (c : Bool) → (c && false && false) ≡ false
          and_false_twice true = refl
          and_false_twice false = refl
      each true c false f = absurd (true≢false (sym (f refl)))
      each false true true f = refl
      each false true false f = refl
      each false false true f = refl
      each false false false f = refl

  -- k isn't above p: those from k on are the same
  from_later : lte k p ≡ true → entries_from p (entries_below q (entries_from k b)) ≡ entries_from p (entries_below q b)
  unfolding entries_from entries_below
  from_later h =
      only_three (λ (e : Entry). not (is_below k e)) (is_below q) (λ (e : Entry). not (is_below p e)) b
      ∙ only_alike (λ (e : Entry). not (is_below k e) && is_below q e && not (is_below p e)) (λ (e : Entry). is_below q e && not (is_below p e)) b
      (λ i d l. each (is_below p (get_or b i d)) (is_below q (get_or b i d)) (is_below k (get_or b i d)) (below_more k p h (get_or b i d)))
      ∙ only_both (is_below q) (λ (e : Entry). not (is_below p e)) b
    where
      each : (a c d : Bool) → (d ≡ true → a ≡ true) → (not d && c && not a) ≡ (c && not a)
      each a c false f = refl
      each true true true f = refl
      each true false true f = refl
      each false c true f = absurd (true≢false (sym (f refl)))

  -- k isn't above q: below k
  below_cut : lte k q ≡ true → entries_from p (entries_below k (entries_below k b)) ≡ entries_below k (entries_from p (entries_below q b))
  unfolding entries_from entries_below
  below_cut h =
      only_three (is_below k) (is_below k) (λ (e : Entry). not (is_below p e)) b
      ∙ only_alike (λ (e : Entry). is_below k e && is_below k e && not (is_below p e)) (λ (e : Entry). is_below q e && not (is_below p e) && is_below k e) b
      (λ i d l. each (is_below p (get_or b i d)) (is_below q (get_or b i d)) (is_below k (get_or b i d)) (below_more k q h (get_or b i d)))
      ∙ sym (only_three (is_below q) (λ (e : Entry). not (is_below p e)) (is_below k) b)
    where
      each : (a c d : Bool) → (d ≡ true → c ≡ true) → (d && d && not a) ≡ (c && not a && d)
      each true true true f = refl
      each false true true f = refl
      each a false true f = absurd (true≢false (sym (f refl)))
      each true true false f = refl
      each false true false f = refl
      each a false false f = refl

-- ---- a cut at k

module _ (pt : PivotTable) (k : Key) (b : Bucket) (w : WFPivots pt ≡ true) (r : entries_rise b ≡ true) (s : length k ≤ max_len) where
  table : Table pt
  table = (wf_says pt w).table

  module _ (v : BoundedKey pt k ≡ true) where
    right_sorted : IsStrictlySorted (SplitRight pt k) ≡ true
    right_sorted = wf_sorted (SplitRight pt k) (split_right_wf pt k w v s)

    right_rise : entries_rise (entries_from (key k) b) ≡ true
    right_rise = rw (from_drop (key k) b r) (rise_drop (length (entries_below (key k) b)) b r)

    -- the cut slot is one of the old ones
    pub right_there : CutoffForRight pt k < NumBuckets pt
    right_there = rw (cutoff_right_is_route pt k) (route_inside pt k w v)

    -- the first slot's part is the cut one's from k on
    right_first : slot_entries (SplitRight pt k) (entries_from (key k) b) 0 ≡ entries_from (key k) (slot_entries pt b (CutoffForRight pt k))
    right_first =
        let c = CutoffForRight pt k in
        let i = right_there in
        let n = right_length table k v in
        let f : lte (pivot_at pt c) (key k) ≡ true = rw (cutoff_right_is_route pt k) (route_from pt k w v) in
        let z : c + 1 + 0 ≡ c + 1 = omega arith in
        let e : pivot_at (SplitRight pt k) (0 + 1) ≡ pivot_at pt (c + 1) = right_at table k v 0 ∙ rw z in
        slot_between (SplitRight pt k) (entries_from (key k) b) right_sorted right_rise 0 (omega arith)
        ∙ rw (split_right_first pt k w v, e, slot_between pt b (wf_sorted pt w) r c i) (from_cut (pivot_at pt c) (pivot_at pt (c + 1)) (key k) b f)

    -- the others are the old ones after it
    right_later : (i : ℕ) → suc i < NumBuckets (SplitRight pt k) → slot_entries (SplitRight pt k) (entries_from (key k) b) (suc i) ≡ slot_entries pt b (CutoffForRight pt k + 1 + i)
    right_later i h =
        let c = CutoffForRight pt k in
        let j = right_there in
        let n = right_length table k v in
        let m : c + 1 + i < NumBuckets pt = omega arith in
        let z : c + 1 + (i + 1) ≡ c + 1 + i + 1 = omega arith in
        let y : suc i + 1 ≡ suc (i + 1) = omega arith in
        let e : pivot_at (SplitRight pt k) (suc i + 1) ≡ pivot_at pt (c + 1 + i + 1) = rw y (right_at table k v (i + 1) ∙ rw z) in
        let f : lte (key k) (pivot_at pt (c + 1 + i)) ≡ true = lt_lte (key k) (pivot_at pt (c + 1 + i)) (route_upper pt k w v (c + 1 + i) (omega (arith, cutoff_right_is_route pt k)) (omega arith)) in
        slot_between (SplitRight pt k) (entries_from (key k) b) right_sorted right_rise (suc i) h
        ∙ rw (right_at table k v i, e, slot_between pt b (wf_sorted pt w) r (c + 1 + i) m) (from_later (pivot_at pt (c + 1 + i)) (pivot_at pt (c + 1 + i + 1)) (key k) b f)

    -- the right cut's list is the cut bucket's part from k on, and the old list after it
    pub slots_right : slot_buckets (SplitRight pt k) (entries_from (key k) b)
        ≡ entries_from (key k) (slot_entries pt b (CutoffForRight pt k)) ∷ drop (CutoffForRight pt k + 1) (slot_buckets pt b)
    slots_right =
        ext_get_or [] (slot_buckets (SplitRight pt k) (entries_from (key k) b)) (entries_from (key k) (slot_entries pt b (CutoffForRight pt k)) ∷ drop (CutoffForRight pt k + 1) (slot_buckets pt b))
        (omega (arith, slots_count (SplitRight pt k) (entries_from (key k) b), slots_count pt b, length-drop (CutoffForRight pt k + 1) (slot_buckets pt b), right_length table k v, right_there)) each
      where
        each : (i : ℕ) → i < length (slot_buckets (SplitRight pt k) (entries_from (key k) b))
            → get_or (slot_buckets (SplitRight pt k) (entries_from (key k) b)) i [] ≡ get_or (entries_from (key k) (slot_entries pt b (CutoffForRight pt k)) ∷ drop (CutoffForRight pt k + 1) (slot_buckets pt b)) i []
        each zero h = slots_at (SplitRight pt k) (entries_from (key k) b) 0 (omega (arith, slots_count (SplitRight pt k) (entries_from (key k) b))) ∙ right_first
        each (suc i) h =
            let c = CutoffForRight pt k in
            let n = slots_count (SplitRight pt k) (entries_from (key k) b) in
            slots_at (SplitRight pt k) (entries_from (key k) b) (suc i) (omega arith) ∙ right_later i (omega arith)
            ∙ sym (slots_at pt b (c + 1 + i) (omega (arith, right_length table k v, right_there))) ∙ sym (get_or-drop (c + 1) (slot_buckets pt b) i [])

  module _ (v : ValidLeftCutOffKey pt k ≡ true) where
    left_sorted : IsStrictlySorted (SplitLeft pt k) ≡ true
    left_sorted = wf_sorted (SplitLeft pt k) (split_left_wf pt k w v s)

    left_rise : entries_rise (entries_below (key k) b) ≡ true
    left_rise = rw (below_take (key k) b r) (rise_take (length (entries_below (key k) b)) b r)

    left_there : CutoffForLeft pt k < NumBuckets pt
    left_there = cutoff_left_inside pt k w v

    -- the slots before the cut one have their old parts
    left_before : (i : ℕ) → i < CutoffForLeft pt k → slot_entries (SplitLeft pt k) (entries_below (key k) b) i ≡ slot_entries pt b i
    left_before i h =
        let j = left_there in
        let n = left_length table k v in
        let f : lte (pivot_at pt (i + 1)) (key k) ≡ true = lt_lte (pivot_at pt (i + 1)) (key k) (cutoff_left_lower pt k w v (i + 1) (omega arith)) in
        slot_between (SplitLeft pt k) (entries_below (key k) b) left_sorted left_rise i (omega arith)
        ∙ rw (left_at table k v i (omega arith), left_at table k v (i + 1) (omega arith), below_within (pivot_at pt (i + 1)) (key k) f b, slot_between pt b (wf_sorted pt w) r i (omega arith))

    -- the last slot's part is the cut one's below k
    left_last : slot_entries (SplitLeft pt k) (entries_below (key k) b) (CutoffForLeft pt k) ≡ entries_below (key k) (slot_entries pt b (CutoffForLeft pt k))
    left_last =
        let c = CutoffForLeft pt k in
        let j = left_there in
        let n = left_length table k v in
        slot_between (SplitLeft pt k) (entries_below (key k) b) left_sorted left_rise c (omega arith)
        ∙ rw (left_at table k v c (omega arith), left_end table k v, slot_between pt b (wf_sorted pt w) r c j) (below_cut (pivot_at pt c) (pivot_at pt (c + 1)) (key k) b (cutoff_left_reaches pt k w v))

    -- the left cut's list is the old one before the cut slot, and the cut bucket's part below k
    pub slots_left : slot_buckets (SplitLeft pt k) (entries_below (key k) b)
        ≡ take (CutoffForLeft pt k) (slot_buckets pt b) ++ (entries_below (key k) (slot_entries pt b (CutoffForLeft pt k)) ∷ [])
    slots_left =
        ext_get_or [] (slot_buckets (SplitLeft pt k) (entries_below (key k) b)) (take (CutoffForLeft pt k) (slot_buckets pt b) ++ (entries_below (key k) (slot_entries pt b (CutoffForLeft pt k)) ∷ []))
        (omega (arith, slots_count (SplitLeft pt k) (entries_below (key k) b), left_length table k v, kept, length-append (take (CutoffForLeft pt k) (slot_buckets pt b)) (entries_below (key k) (slot_entries pt b (CutoffForLeft pt k)) ∷ []))) each
      where
        kept : length (take (CutoffForLeft pt k) (slot_buckets pt b)) ≡ CutoffForLeft pt k
        kept = length-take-le (CutoffForLeft pt k) (slot_buckets pt b) (omega (arith, slots_count pt b, left_there))

        each : (i : ℕ) → i < length (slot_buckets (SplitLeft pt k) (entries_below (key k) b))
            → get_or (slot_buckets (SplitLeft pt k) (entries_below (key k) b)) i [] ≡ get_or (take (CutoffForLeft pt k) (slot_buckets pt b) ++ (entries_below (key k) (slot_entries pt b (CutoffForLeft pt k)) ∷ [])) i []
        each i h =
            let n = slots_count (SplitLeft pt k) (entries_below (key k) b) in
            slots_at (SplitLeft pt k) (entries_below (key k) b) i (omega arith) ∙ ⊎_elim last before (le_or_lt (CutoffForLeft pt k) i)
          where
            last : CutoffForLeft pt k ≤ i → slot_entries (SplitLeft pt k) (entries_below (key k) b) i ≡ get_or (take (CutoffForLeft pt k) (slot_buckets pt b) ++ (entries_below (key k) (slot_entries pt b (CutoffForLeft pt k)) ∷ [])) i []
            last l =
                let n = slots_count (SplitLeft pt k) (entries_below (key k) b) in
                let e : i ≡ CutoffForLeft pt k = omega (arith, left_length table k v) in
                rw e (left_last ∙ sym (get_or_at (take (CutoffForLeft pt k) (slot_buckets pt b)) (entries_below (key k) (slot_entries pt b (CutoffForLeft pt k))) [] [] (CutoffForLeft pt k) kept))

            before : i < CutoffForLeft pt k → slot_entries (SplitLeft pt k) (entries_below (key k) b) i ≡ get_or (take (CutoffForLeft pt k) (slot_buckets pt b) ++ (entries_below (key k) (slot_entries pt b (CutoffForLeft pt k)) ∷ [])) i []
            before l =
                let m = kept in
                left_before i l ∙ sym (slots_at pt b i (omega (arith, left_there))) ∙ sym (get_or-take (CutoffForLeft pt k) (slot_buckets pt b) i [] l)
                ∙ sym (get_or-append (take (CutoffForLeft pt k) (slot_buckets pt b)) (entries_below (key k) (slot_entries pt b (CutoffForLeft pt k)) ∷ []) [] i (omega arith))

-- ---- a cut at k on the right of what a cut at r on the left leaves

module _ (pt : PivotTable) (k r : Key) (b : Bucket) (w : WFPivots pt ≡ true) (u : entries_rise b ≡ true) (sk : length k ≤ max_len) (sr : length r ≤ max_len) (vr : ValidLeftCutOffKey pt r ≡ true) (vk : BoundedKey (SplitLeft pt r) k ≡ true) where
  wl : WFPivots (SplitLeft pt r) ≡ true
  wl = split_left_wf pt r w vr sr

  inner : entries_rise (entries_below (key r) b) ≡ true
  inner = left_rise pt r b w u sr vr

  -- the right cut is in the slot of the old table
  pub node_right : CutoffForRight (SplitLeft pt r) k ≡ CutoffForRight pt k
  node_right = cutoff_right_is_route (SplitLeft pt r) k ∙ split_left_route pt r w vr k vk ∙ sym (cutoff_right_is_route pt k)

  -- which isn't after that of the left one
  pub node_order : CutoffForRight pt k ≤ CutoffForLeft pt r
  node_order = omega (arith, node_right, right_there (SplitLeft pt r) k (entries_below (key r) b) wl inner sk vk, left_length (table pt r b w u sr) r vr)

  from_left : slot_buckets (SplitRight (SplitLeft pt r) k) (entries_from (key k) (entries_below (key r) b))
      ≡ entries_from (key k) (slot_entries (SplitLeft pt r) (entries_below (key r) b) (CutoffForRight pt k)) ∷ drop (CutoffForRight pt k + 1) (slot_buckets (SplitLeft pt r) (entries_below (key r) b))
  from_left = rw node_right at (slots_right (SplitLeft pt r) k (entries_below (key r) b) wl inner sk vk)

  -- where it is before that: the first cut bucket's part from k on, the old list's buckets between them, the last one's part below r
  pub slots_node : CutoffForRight pt k < CutoffForLeft pt r → slot_buckets (SplitRight (SplitLeft pt r) k) (entries_from (key k) (entries_below (key r) b))
      ≡ (entries_from (key k) (slot_entries pt b (CutoffForRight pt k)) ∷ drop (CutoffForRight pt k + 1) (take (CutoffForLeft pt r) (slot_buckets pt b)))
      ++ (entries_below (key r) (slot_entries pt b (CutoffForLeft pt r)) ∷ [])
  slots_node h =
      let m = length-take-le (CutoffForLeft pt r) (slot_buckets pt b) (omega (arith, slots_count pt b, left_there pt r b w u sr vr)) in
      from_left ∙ rw (left_before pt r b w u sr vr (CutoffForRight pt k) h, slots_left pt r b w u sr vr, drop-append-le (CutoffForRight pt k + 1) (take (CutoffForLeft pt r) (slot_buckets pt b)) (entries_below (key r) (slot_entries pt b (CutoffForLeft pt r)) ∷ []) (omega arith))

  -- where both are in one slot: that one's part from k on below r
  pub slots_one : CutoffForRight pt k ≡ CutoffForLeft pt r → slot_buckets (SplitRight (SplitLeft pt r) k) (entries_from (key k) (entries_below (key r) b))
      ≡ entries_from (key k) (entries_below (key r) (slot_entries pt b (CutoffForLeft pt r))) ∷ []
  slots_one h =
      let m = length-take-le (CutoffForLeft pt r) (slot_buckets pt b) (omega (arith, slots_count pt b, left_there pt r b w u sr vr)) in
      let n = slots_count (SplitLeft pt r) (entries_below (key r) b) in
      let e = drop_of_length-le (slot_buckets (SplitLeft pt r) (entries_below (key r) b)) {i = CutoffForRight pt k + 1} (omega (arith, left_length (table pt r b w u sr) r vr)) in
      from_left ∙ rw (e, h, left_last pt r b w u sr vr)

-- ---- one slot

-- the entries inside a table of two pivots are one bucket
pub slots_alone : (pt : PivotTable) (b : Bucket) → IsStrictlySorted pt ≡ true → length pt ≡ 2 → entries_inside pt b ≡ true → slot_buckets pt b ≡ b ∷ []
unfolding together
slots_alone pt b s h n = go (slot_buckets pt b) (slots_count pt b) (slots_together pt b s (omega arith) n)
  where
    go : (blist : List Bucket) → length blist ≡ NumBuckets pt → together blist ≡ b → blist ≡ b ∷ []
    go [] l e = absurd (omega arith)
    go (a ∷ []) l e = ap (λ (x : Bucket). x ∷ []) (sym (append-nil a) ∙ e)
    go (a ∷ c ∷ blist) l e = absurd (omega arith)
