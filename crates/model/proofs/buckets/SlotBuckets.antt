-- The slots' parts as a list of buckets: one after the other they are the bucket, and begin at its index; so they do translated.
use mathlib.Core.Path.{◌≡◌, refl, sym, ap, ◌∙◌}
use mathlib.Core.Bool.{true}
use mathlib.Core.List.{List, [], ◌∷◌, ◌++◌}
use Prim.Native.Nat.{ℕ, zero, suc, ◌+◌, ◌-◌, ◌≤◌, ◌<◌}
use native.Mathlib.Numerals.{add-one}
use native.Mathlib.Omega.{arith}
use lib.ListN.{length, take, drop, get_or, length-append, length-map}
use lib.Seq.{take-add, take_all, drop-drop}
use Rattle.model.specs.keys.Key.{Key}
use Rattle.model.specs.keys.Order.{Element}
use Rattle.model.specs.tables.Tables.{PivotTable, pivot_at, NumBuckets, IsStrictlySorted}
use Rattle.model.specs.buckets.Bucket.{Bucket, TranslateBucket, TranslateBuckets, entries_rise}
use Rattle.model.specs.buckets.Index.{entries_below, Index, place_at, slot_entries, slots_from, slot_buckets, together, places_from, TranslateIndex}
use Rattle.model.specs.calls.IndexCalls.{entries_inside}
use Rattle.model.proofs.Lists.{get_d_map}
use Rattle.model.proofs.buckets.Renamed.{renamed_append}
use Rattle.model.proofs.buckets.Below.{below_take}
use Rattle.model.proofs.buckets.IndexBytes.{index_count, index_at}
use Rattle.model.proofs.buckets.Index.{index_first, index_last, index_rises, slot_length, none_first, all_last}

-- two parts that meet are the part between the outer places
parts_meet : (a c d : ℕ) (b : Bucket) → a ≤ c → c ≤ d → take (c - a) (drop a b) ++ take (d - c) (drop c b) ≡ take (d - a) (drop a b)
parts_meet a c d b h k =
    let e : c - a + (d - c) ≡ d - a = omega arith in
    let f : a + (c - a) ≡ c = omega arith in
    sym (rw (e, drop-drop, f) at (take-add (c - a) (d - c) (drop a b)))

-- places of which the first is 0 and each next one comes after so many entries are those of the buckets
places_of : (ns : List ℕ) (blist : List Bucket) → length ns ≡ length blist + 1 → ((j : ℕ) → j < length blist → get_or ns (suc j) 0 ≡ get_or ns j 0 + length (get_or blist j []))
    → places_from (get_or ns 0 0) blist ≡ ns
unfolding places_from
places_of [] blist h f = absurd (omega arith)
places_of (n ∷ []) [] h f = refl
places_of (n ∷ m ∷ ns) [] h f = absurd (omega arith)
places_of (n ∷ ns) (b ∷ blist) h f =
    let e : n + length b ≡ get_or ns 0 0 = sym (f 0 (omega arith)) in
    rw e (ap (◌∷◌ n) (places_of ns blist (omega arith) (λ j l. f (suc j) (omega arith))))

module _ (pt : PivotTable) (b : Bucket) where
  -- n slots have n parts
  from_count : (i n : ℕ) → length (slots_from pt b i n) ≡ n
  unfolding slots_from
  from_count i zero = refl
  from_count i (suc n) = ap suc (from_count (suc i) n)

  -- a part for each slot
  pub slots_count : length (slot_buckets pt b) ≡ NumBuckets pt
  unfolding slot_buckets
  slots_count = from_count 0 (NumBuckets pt)

  from_at : (i n j : ℕ) → j < n → get_or (slots_from pt b i n) j [] ≡ slot_entries pt b (i + j)
  unfolding slots_from
  from_at i zero j h = absurd (omega arith)
  from_at i (suc n) zero h = let e : i + 0 ≡ i = omega arith in rw e
  from_at i (suc n) (suc j) h = let e : suc i + j ≡ i + suc j = omega arith in from_at (suc i) n j (omega arith) ∙ rw e

  -- that of slot i stands at place i
  pub slots_at : (i : ℕ) → i < NumBuckets pt → get_or (slot_buckets pt b) i [] ≡ slot_entries pt b i
  unfolding slot_buckets
  slots_at i h = let e : 0 + i ≡ i = omega arith in from_at 0 (NumBuckets pt) i h ∙ rw e

  module _ (s : IsStrictlySorted pt ≡ true) where
    -- the parts of n slots from slot i on are the part between the first's place and that after the last
    from_together : (i n : ℕ) → i + n < length pt
        → together (slots_from pt b i n) ≡ take (place_at (Index pt b) (i + n) - place_at (Index pt b) i) (drop (place_at (Index pt b) i) b)
    unfolding together slots_from slot_entries
    from_together i zero h = let z : i + 0 ≡ i = omega arith in let e : place_at (Index pt b) (i + 0) - place_at (Index pt b) i ≡ 0 = rw z (omega arith) in rw e
    from_together i (suc n) h =
        let e : suc i + n ≡ i + suc n = omega arith in
        rw (from_together (suc i) n (omega arith), e, add-one)
        (parts_meet (place_at (Index pt b) i) (place_at (Index pt b) (suc i)) (place_at (Index pt b) (i + suc n)) b
        (index_rises pt b s i (suc i) (omega arith) (omega arith)) (index_rises pt b s (suc i) (i + suc n) (omega arith) h))

    -- each begins where the one before it ends
    next_place : (j : ℕ) → j < length (slot_buckets pt b) → get_or (Index pt b) (suc j) 0 ≡ get_or (Index pt b) j 0 + length (get_or (slot_buckets pt b) j [])
    next_place j h =
        let c = slots_count in
        let e : length (get_or (slot_buckets pt b) j []) ≡ place_at (Index pt b) (suc j) - place_at (Index pt b) j = rw (slots_at j (omega arith), slot_length pt b j (omega arith), add-one) in
        omega (arith, index_rises pt b s j (suc j) (omega arith) (omega arith))

    module _ (h : 0 < length pt) (n : entries_inside pt b ≡ true) where
      -- one after the other they are the bucket: every entry is in exactly one slot's part
      pub slots_together : together (slot_buckets pt b) ≡ b
      unfolding slot_buckets
      slots_together =
          let e : 0 + NumBuckets pt ≡ NumBuckets pt = omega arith in
          let z : length b - 0 ≡ length b = omega arith in
          from_together 0 (NumBuckets pt) (omega arith) ∙ rw (e, index_first pt b n h, index_last pt b n h, z) (take_all (length b) b (omega arith))

      -- the slots' buckets begin at the places of the index
      pub slots_places : places_from 0 (slot_buckets pt b) ≡ Index pt b
      slots_places = rw (index_first pt b n h) at (places_of (Index pt b) (slot_buckets pt b) (omega (arith, slots_count, index_count pt b)) next_place)

-- ---- translated

module _ (p q : Key) where
  -- buckets that are translated one by one are together the translated bucket
  pub renamed_together : (blist : List Bucket) → together (TranslateBuckets blist p q) ≡ TranslateBucket (together blist) p q
  unfolding together TranslateBuckets TranslateBucket
  renamed_together [] = refl
  renamed_together (b ∷ blist) = rw (renamed_together blist) (sym (renamed_append p q b (together blist)))

  -- there is a place for each pivot
  pub translated_count : (pt : PivotTable) (b : Bucket) → length (TranslateIndex pt b p q) ≡ length pt
  unfolding TranslateIndex
  translated_count pt b = length-map pt (λ (x : Element). length (TranslateBucket (entries_below x b) p q))

  translated_at : (pt : PivotTable) (b : Bucket) (i : ℕ) → i < length pt → place_at (TranslateIndex pt b p q) i ≡ length (TranslateBucket (entries_below (pivot_at pt i) b) p q)
  unfolding TranslateIndex
  translated_at pt b i l = get_d_map (λ (x : Element). length (TranslateBucket (entries_below x b) p q)) pt i 0 _ l

  module _ (pt : PivotTable) (b : Bucket) (s : IsStrictlySorted pt ≡ true) (h : 0 < length pt) (n : entries_inside pt b ≡ true) where
    -- the slots' parts, each translated, are together the translated bucket
    pub translated_together : together (TranslateBuckets (slot_buckets pt b) p q) ≡ TranslateBucket b p q
    translated_together = renamed_together (slot_buckets pt b) ∙ rw (slots_together pt b s h n)

    -- the first is at 0
    pub translated_first : place_at (TranslateIndex pt b p q) 0 ≡ 0
    unfolding TranslateBucket
    translated_first = translated_at pt b 0 h ∙ rw (none_first pt b n)

    -- the last place is their total
    pub translated_last : place_at (TranslateIndex pt b p q) (NumBuckets pt) ≡ length (TranslateBucket b p q)
    translated_last = translated_at pt b (NumBuckets pt) (omega arith) ∙ rw (all_last pt b n)

    module _ (r : entries_rise b ≡ true) where
      -- the entries below a pivot are those before its place
      before_place : (j : ℕ) → j < length pt → entries_below (pivot_at pt j) b ≡ take (place_at (Index pt b) j) b
      before_place j l = rw (index_at pt b j l) (below_take (pivot_at pt j) b r)

      -- those below a slot's second pivot are those below its first, and the slot's
      below_next : (j : ℕ) → j < NumBuckets pt → entries_below (pivot_at pt (j + 1)) b ≡ entries_below (pivot_at pt j) b ++ slot_entries pt b j
      unfolding slot_entries
      below_next j l =
          let a = place_at (Index pt b) j in
          let c = place_at (Index pt b) (j + 1) in
          let e : a + (c - a) ≡ c = omega (arith, index_rises pt b s j (j + 1) (omega arith) (omega arith)) in
          rw (before_place j (omega arith), before_place (j + 1) (omega arith)) (rw e at (take-add a (c - a) b))

      translated_next : (j : ℕ) → j < length (TranslateBuckets (slot_buckets pt b) p q)
          → get_or (TranslateIndex pt b p q) (suc j) 0 ≡ get_or (TranslateIndex pt b p q) j 0 + length (get_or (TranslateBuckets (slot_buckets pt b) p q) j [])
      unfolding TranslateBuckets
      translated_next j l =
          let c : j < length (slot_buckets pt b) = omega (arith, length-map (slot_buckets pt b) (λ (x : Bucket). TranslateBucket x p q)) in
          let m : j < NumBuckets pt = omega (arith, slots_count pt b) in
          let e = get_d_map (λ (x : Bucket). TranslateBucket x p q) (slot_buckets pt b) j [] [] c in
          rw (e, slots_at pt b j m, ← add-one, translated_at pt b j (omega arith), translated_at pt b (j + 1) (omega arith), below_next j m, renamed_append p q (entries_below (pivot_at pt j) b) (slot_entries pt b j))
          (length-append (TranslateBucket (entries_below (pivot_at pt j) b) p q) (TranslateBucket (slot_entries pt b j) p q))

      -- the slots' translated buckets begin at the places of the translated index
      pub translated_places : places_from 0 (TranslateBuckets (slot_buckets pt b) p q) ≡ TranslateIndex pt b p q
      unfolding TranslateBuckets
      translated_places =
          let c = length-map (slot_buckets pt b) (λ (x : Bucket). TranslateBucket x p q) in
          rw translated_first at (places_of (TranslateIndex pt b p q) (TranslateBuckets (slot_buckets pt b) p q) (omega (arith, slots_count pt b, translated_count pt b)) translated_next)
