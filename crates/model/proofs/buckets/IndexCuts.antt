-- The entries on one side of a cut, and their index: what it has of the whole bucket's.
use mathlib.Core.Path.{◌≡◌, refl, sym, ap, ◌∙◌}
use mathlib.Core.Bool.{Bool, true, false, cond, not}
use mathlib.Core.List.{List, [], ◌∷◌, ◌++◌, map}
use mathlib.Core.Option.{none}
use Prim.Native.Nat.{ℕ, suc, ◌+◌, ◌*◌, ◌-◌, ◌/◌, ◌≤◌, ◌<◌, min}
use native.Mathlib.Numerals.{add-one}
use native.Mathlib.Omega.{arith}
use lib.ListN.{length, take, drop, get_or, take-append-drop, length-drop}
use lib.Seq.{take-suc, take_at, drop_at, drop-cons, length-take-le, get_or-take}
use Rattle.model.specs.keys.Key.{Key, Bytes}
use Rattle.model.specs.keys.Order.{Element, key, max, lte}
use Rattle.model.specs.tables.Tables.{PivotTable, NumBuckets, pivot_at, WFPivots, BoundedKey, ValidLeftCutOffKey, CutoffForLeft, CutoffForRight}
use Rattle.model.specs.cuts.Cuts.{SplitLeft, SplitRight}
use Rattle.model.specs.buckets.Bucket.{Entry, Bucket, entry_size, sized_entry, entries, encode_entry, encode_bucket, entries_rise}
use Rattle.model.specs.buckets.Index.{only, is_below, entries_below, entries_from, Index, place_size, encode_place, encode_index, places}
use Rattle.model.specs.calls.Refusals.{first}
use Rattle.model.specs.calls.BucketCalls.{bucket_causes}
use Rattle.model.proofs.keys.Order.{lte_total, lt_lte}
use Rattle.model.proofs.tables.Routing.{route_inside, route_from, cutoff_right_is_route, cutoff_left_inside, cutoff_left_lower, cutoff_left_reaches}
use Rattle.model.proofs.records.Records.{joined_take, joined_drop}
use Rattle.model.proofs.buckets.Entries.{length_entry}
use Rattle.model.proofs.buckets.Below.{below_most, below_take, from_drop}
use Rattle.model.proofs.buckets.Index.{below_more, below_within, below_rises}
use Rattle.model.proofs.buckets.IndexBytes.{a_place, all_places, length_place, places-encode_index, index_count}
use Rattle.model.proofs.calls.BucketCalls.{bucket_count, bucket_whole, bucket_sized, bucket_encode}

-- ---- one test after another

module _ (s t : Entry → Bool) where
  -- where what passes s passes t, testing by t afterwards changes nothing
  only_narrower : ((e : Entry) → s e ≡ true → t e ≡ true) → (b : Bucket) → only t (only s b) ≡ only s b
  unfolding only
  only_narrower f [] = refl
  only_narrower f (e ∷ b) = go (s e) refl (only_narrower f b)
    where
      go : (u : Bool) → s e ≡ u → only t (only s b) ≡ only s b → only t (cond u (e ∷ only s b) (only s b)) ≡ cond u (e ∷ only s b) (only s b)
      go true g r = rw (f e g, r)
      go false g r = r

  -- of what passes t some passes s and the rest doesn't
  only_parts : (b : Bucket) → length (only t (only s b)) + length (only t (only (λ (e : Entry). not (s e)) b)) ≡ length (only t b)
  unfolding only
  only_parts [] = omega arith
  only_parts (e ∷ b) = go (s e) (t e) refl (only_parts b)
    where
      go : (u v : Bool) → t e ≡ v → length (only t (only s b)) + length (only t (only (λ (x : Entry). not (s x)) b)) ≡ length (only t b)
          → length (only t (cond u (e ∷ only s b) (only s b))) + length (only t (cond (not u) (e ∷ only (λ (x : Entry). not (s x)) b) (only (λ (x : Entry). not (s x)) b))) ≡ length (cond v (e ∷ only t b) (only t b))
      go true true h r = rw h (omega arith)
      go true false h r = rw h (omega arith)
      go false true h r = rw h (omega arith)
      go false false h r = rw h (omega arith)

-- ---- entries below an element, of those below another, or of the others

module _ (p q : Element) (b : Bucket) where
  -- of the entries below q as many are below p as are in all, or all of them
  pub below_both : length (entries_below p (entries_below q b)) ≡ min (length (entries_below p b)) (length (entries_below q b))
  below_both = go (lte p q) refl
    where
      go : (t : Bool) → lte p q ≡ t → length (entries_below p (entries_below q b)) ≡ min (length (entries_below p b)) (length (entries_below q b))
      go true h = rw (below_within p q h b) (omega (arith, below_rises p q h b))
      go false h =
          let g = lte_total p q h in
          let e : entries_below p (entries_below q b) ≡ entries_below q b = unfold entries_below in only_narrower (is_below q) (is_below p) (below_more q p g) b in
          rw e (omega (arith, below_rises q p g b))

  -- of the others those that are below p beyond the ones below q
  pub below_beyond : length (entries_below p (entries_from q b)) ≡ length (entries_below p b) - length (entries_below q b)
  below_beyond =
      let e : length (entries_below p (entries_below q b)) + length (entries_below p (entries_from q b)) ≡ length (entries_below p b) = unfold entries_below entries_from in only_parts (is_below q) (is_below p) b in
      omega (arith, below_both)

-- ---- the index

-- a pivot more has a place more
index_step : (p : Element) (pt : PivotTable) (b : Bucket) → Index (p ∷ pt) b ≡ length (entries_below p b) ∷ Index pt b
unfolding Index
index_step p pt b = refl

-- that of pivots and then of others is that of all of them
index_append : (xs ys : PivotTable) (b : Bucket) → Index (xs ++ ys) b ≡ Index xs b ++ Index ys b
unfolding Index
index_append [] ys b = refl
index_append (p ∷ xs) ys b = ap (◌∷◌ (length (entries_below p b))) (index_append xs ys b)

module _ (n : ℕ) (pt : PivotTable) (b : Bucket) (h : n ≤ length pt) where
  parts : Index pt b ≡ Index (take n pt) b ++ Index (drop n pt) b
  parts = rw (← index_append (take n pt) (drop n pt) b, take-append-drop n pt)

  part_length : length (Index (take n pt) b) ≡ n
  part_length = index_count (take n pt) b ∙ length-take-le n pt h

  -- the first pivots have the first places
  pub index_take : Index (take n pt) b ≡ take n (Index pt b)
  index_take = rw (parts, take_at (Index (take n pt) b) (Index (drop n pt) b) n part_length)

  -- the pivots that follow the first n have the places that follow theirs
  pub index_drop : Index (drop n pt) b ≡ drop n (Index pt b)
  index_drop = rw (parts, drop_at (Index (take n pt) b) (Index (drop n pt) b) n part_length)

module _ (q : Element) (b : Bucket) where
  -- of the entries below q no place is above their number
  index_below : (pt : PivotTable) → Index pt (entries_below q b) ≡ map (λ (m : ℕ). min m (length (entries_below q b))) (Index pt b)
  unfolding Index
  index_below [] = refl
  index_below (p ∷ pt) = rw (below_both p q b, index_below pt)

  -- of the others each is less by that number, or 0
  index_from : (pt : PivotTable) → Index pt (entries_from q b) ≡ map (λ (m : ℕ). m - length (entries_below q b)) (Index pt b)
  unfolding Index
  index_from [] = refl
  index_from (p ∷ pt) = rw (below_beyond p q b, index_from pt)

-- where no pivot is above q, the places stay
index_kept : (q : Element) (b : Bucket) (pt : PivotTable) (d : Element) → ((i : ℕ) → i < length pt → lte (get_or pt i d) q ≡ true) → Index pt (entries_below q b) ≡ Index pt b
unfolding Index
index_kept q b [] d f = refl
index_kept q b (p ∷ pt) d f =
    rw (below_within p q (f 0 (omega arith)) b, index_kept q b pt d (λ i h. f (suc i) (omega arith)))

-- ---- a cut at k

module _ (pt : PivotTable) (k : Key) (b : Bucket) (w : WFPivots pt ≡ true) where
  -- the number of entries below k
  abbrev below : ℕ
  below = length (entries_below (key k) b)

  module _ (v : ValidLeftCutOffKey pt k ≡ true) where
    -- the left index by the old places up to the end of the cut slot: none is above that number
    pub index_left : Index (SplitLeft pt k) (entries_below (key k) b) ≡ map (λ (m : ℕ). min m below) (take (CutoffForLeft pt k + 2) (Index pt b))
    unfolding SplitLeft
    index_left =
        let c = CutoffForLeft pt k in
        let i = cutoff_left_inside pt k w v in
        let n : c + 2 ≡ suc (c + 1) = omega arith in
        let e : take (c + 2) pt ≡ take (c + 1) pt ++ (pivot_at pt (c + 1) ∷ []) = rw n (take-suc pt (c + 1) max (omega arith)) in
        rw (← index_take (c + 2) pt b (omega arith), ← index_below (key k) b (take (c + 2) pt), e, index_append (take (c + 1) pt) (key k ∷ []), index_append (take (c + 1) pt) (pivot_at pt (c + 1) ∷ []), index_step (key k) [], index_step (pivot_at pt (c + 1)) [], ends) (unfold Index in refl)
      where
        ends : length (entries_below (key k) (entries_below (key k) b)) ≡ length (entries_below (pivot_at pt (CutoffForLeft pt k + 1)) (entries_below (key k) b))
        ends =
            let p = pivot_at pt (CutoffForLeft pt k + 1) in
            omega (arith, below_both (key k) (key k) b, below_both p (key k) b, below_rises (key k) p (cutoff_left_reaches pt k w v) b)

    -- the left index has the old places of the pivots that stay, and ends with the number of entries below k
    pub left_places : Index (SplitLeft pt k) (entries_below (key k) b) ≡ take (CutoffForLeft pt k + 1) (Index pt b) ++ (below ∷ [])
    unfolding SplitLeft
    left_places =
        let c = CutoffForLeft pt k in
        let i = cutoff_left_inside pt k w v in
        rw (index_append (take (c + 1) pt) (key k ∷ []), index_step (key k) [], ends, index_kept (key k) b (take (c + 1) pt) max kept, index_take (c + 1) pt b (omega arith)) (unfold Index in refl)
      where
        ends : length (entries_below (key k) (entries_below (key k) b)) ≡ below
        ends = omega (arith, below_both (key k) (key k) b)

        kept : (i : ℕ) → i < length (take (CutoffForLeft pt k + 1) pt) → lte (get_or (take (CutoffForLeft pt k + 1) pt) i max) (key k) ≡ true
        kept i h =
            let n = length-take-le (CutoffForLeft pt k + 1) pt (omega (arith, cutoff_left_inside pt k w v)) in
            rw (get_or-take (CutoffForLeft pt k + 1) pt i max (omega arith)) (lt_lte (pivot_at pt i) (key k) (cutoff_left_lower pt k w v i (omega arith)))

  module _ (v : BoundedKey pt k ≡ true) where
    slot_there : CutoffForRight pt k < NumBuckets pt
    slot_there = rw (cutoff_right_is_route pt k) (route_inside pt k w v)

    -- the right index by the old places from the beginning of the cut slot on: each is less by that number, or 0
    pub index_right : Index (SplitRight pt k) (entries_from (key k) b) ≡ map (λ (m : ℕ). m - below) (drop (CutoffForRight pt k) (Index pt b))
    unfolding SplitRight
    index_right =
        let c = CutoffForRight pt k in
        let i = slot_there in
        let e : drop c pt ≡ pivot_at pt c ∷ drop (c + 1) pt = rw add-one (drop-cons pt c max (omega arith)) in
        rw (← index_drop c pt b (omega arith), ← index_from (key k) b (drop c pt), e, index_step (key k) (drop (c + 1) pt), index_step (pivot_at pt c) (drop (c + 1) pt), begins)
      where
        begins : length (entries_below (key k) (entries_from (key k) b)) ≡ length (entries_below (pivot_at pt (CutoffForRight pt k)) (entries_from (key k) b))
        begins =
            let p = pivot_at pt (CutoffForRight pt k) in
            let f : lte p (key k) ≡ true = rw (cutoff_right_is_route pt k) (route_from pt k w v) in
            omega (arith, below_beyond (key k) (key k) b, below_beyond p (key k) b, below_rises p (key k) f b)

    -- the right index begins with 0, and goes on with the old places less the number of entries below k
    pub right_places : Index (SplitRight pt k) (entries_from (key k) b) ≡ 0 ∷ map (λ (m : ℕ). m - below) (drop (CutoffForRight pt k + 1) (Index pt b))
    unfolding SplitRight
    right_places =
        let c = CutoffForRight pt k in
        let i = slot_there in
        let u : length (entries_below (key k) (entries_from (key k) b)) ≡ 0 = omega (arith, below_beyond (key k) (key k) b) in
        rw (← index_drop (c + 1) pt b (omega arith), ← index_from (key k) b (drop (c + 1) pt), index_step (key k) (drop (c + 1) pt), u)

-- ---- as bytes

-- the bytes of an index: those of its first places, and of the others
module _ (pt : PivotTable) (b : Bucket) (x : List ℕ) (e : x ≡ encode_index (Index pt b)) (n : ℕ) (h : n ≤ length pt) where
  inside : n ≤ length (Index pt b)
  inside = rw (index_count pt b) h

  pub places_take : places (take (n * place_size) x) ≡ take n (Index pt b)
  places_take =
      let t : take (n * place_size) x ≡ encode_index (take n (Index pt b)) = rw e (unfold encode_index in (sym (joined_take place_size a_place encode_place length_place n (Index pt b) inside (all_places (Index pt b))))) in
      rw t (places-encode_index (take n (Index pt b)))

  pub places_drop : places (drop (n * place_size) x) ≡ drop n (Index pt b)
  places_drop =
      let t : drop (n * place_size) x ≡ encode_index (drop n (Index pt b)) = rw e (unfold encode_index in (sym (joined_drop place_size a_place encode_place length_place n (Index pt b) inside (all_places (Index pt b))))) in
      rw t (places-encode_index (drop n (Index pt b)))

-- the bytes of a bucket whose entries rise: those of the entries below q, and of the others
module _ (l : List ℕ) (q : Element) (h : first (bucket_causes false l) ≡ none) (r : entries_rise (entries l) ≡ true) where
  abbrev n : ℕ
  n = length (entries_below q (entries l))

  -- of the entries the others are as many as are left
  pub from_count : length (entries_from q (entries l)) ≡ length l / entry_size - n
  from_count = rw (from_drop q (entries l) r, length-drop, bucket_count false l h)

  pub below_inside : n * entry_size ≤ length l
  below_inside = omega (arith, below_most q (entries l), bucket_count false l h, bucket_whole false l h)

  module _ (b : Bytes l) where
    pub below_bytes : encode_bucket (entries_below q (entries l)) ≡ take (n * entry_size) l
    below_bytes =
        let t : encode_bucket (take n (entries l)) ≡ take (n * entry_size) (encode_bucket (entries l)) =
        unfold encode_bucket in joined_take entry_size sized_entry encode_entry length_entry n (entries l) (below_most q (entries l)) (bucket_sized false l h) in
        ap encode_bucket (below_take q (entries l) r) ∙ t ∙ ap (take (n * entry_size)) (bucket_encode false l h b)

    pub from_bytes : encode_bucket (entries_from q (entries l)) ≡ drop (n * entry_size) l
    from_bytes =
        let t : encode_bucket (drop n (entries l)) ≡ drop (n * entry_size) (encode_bucket (entries l)) =
        unfold encode_bucket in joined_drop entry_size sized_entry encode_entry length_entry n (entries l) (below_most q (entries l)) (bucket_sized false l h) in
        ap encode_bucket (from_drop q (entries l) r) ∙ t ∙ ap (drop (n * entry_size)) (bucket_encode false l h b)
