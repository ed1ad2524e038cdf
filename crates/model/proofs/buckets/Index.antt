-- The index of a bucket: it begins with 0, rises and ends with the total, and a slot's part is the entries that Route sends to it.
use mathlib.Core.Path.{◌≡◌, refl, sym, ap, ◌∙◌}
use mathlib.Core.Bool.{Bool, true, false, cond, not, ◌&&◌, and-false, true≢false}
use mathlib.Core.List.{[], ◌∷◌, ◌++◌, map}
use mathlib.Core.Logic.{⊎_elim}
use Prim.Native.Nat.{ℕ, suc, ◌+◌, ◌-◌, ◌≤◌, ◌<◌}
use native.Mathlib.Nat.{eq-or-lt_of_le}
use native.Mathlib.Omega.{arith}
use borrow.Author.Tests.{eq-eqb, ne_eqb}
use lib.Dec.{eqb}
use lib.ListN.{length, take, drop, get_or, length-drop, take-append-drop}
use lib.Seq.{take-add, drop_at, length-take-le}
use Rattle.model.specs.keys.Key.{Key}
use Rattle.model.specs.keys.Order.{Element, key, lte, lt}
use Rattle.model.specs.tables.Tables.{PivotTable, pivot_at, last_pivot, NumBuckets, all, rises_from, IsStrictlySorted, WFPivots, BoundedKey, Route}
use Rattle.model.specs.buckets.Bucket.{Entry, Bucket, entries_rise}
use Rattle.model.specs.buckets.Index.{only, is_below, entries_below, entries_from, Index, place_at, slot_entries}
use Rattle.model.specs.calls.IndexCalls.{entries_inside}
use Rattle.model.proofs.Lists.{le_or_lt, all_inside, all_parts}
use Rattle.model.proofs.keys.Key.{both}
use Rattle.model.proofs.keys.Order.{lt_trans_lte}
use Rattle.model.proofs.tables.Places.{sorted_lte}
use Rattle.model.proofs.tables.Routing.{wf_sorted, route_lower, route_upper}
use Rattle.model.proofs.buckets.Below.{only_all, only_none, below_most, below_take, from_drop}
use Rattle.model.proofs.buckets.IndexBytes.{index_at}

-- ---- entries that pass a test

-- where what passes one test passes another, those of all that pass the one are those of the other's that do
only_within : (test then : Entry → Bool) → ((e : Entry) → test e ≡ true → then e ≡ true) → (b : Bucket) → only test (only then b) ≡ only test b
unfolding only
only_within test then f [] = refl
only_within test then f (e ∷ b) = go (test e) (then e) refl (f e) (only_within test then f b)
  where
    go : (s t : Bool) → test e ≡ s → (s ≡ true → t ≡ true) → only test (only then b) ≡ only test b
        → only test (cond t (e ∷ only then b) (only then b)) ≡ cond s (e ∷ only test b) (only test b)
    go true true k g h = rw (k, h)
    go true false k g h = absurd (true≢false (sym (g refl)))
    go false true k g h = rw (k, h)
    go false false k g h = h

-- those that pass both tests are those of the one that pass the other
pub only_both : (test then : Entry → Bool) (b : Bucket) → only (λ (e : Entry). test e && then e) b ≡ only then (only test b)
unfolding only
only_both test then [] = refl
only_both test then (e ∷ b) = go (test e) (only_both test then b)
  where
    go : (s : Bool) → only (λ (x : Entry). test x && then x) b ≡ only then (only test b)
        → cond (s && then e) (e ∷ only (λ (x : Entry). test x && then x) b) (only (λ (x : Entry). test x && then x) b) ≡ only then (cond s (e ∷ only test b) (only test b))
    go true h = rw h
    go false h = h

-- tests that agree on all entries are passed by the same
pub only_alike : (test then : Entry → Bool) (b : Bucket) → ((i : ℕ) (d : Entry) → i < length b → test (get_or b i d) ≡ then (get_or b i d)) → only test b ≡ only then b
unfolding only
only_alike test then [] f = refl
only_alike test then (e ∷ b) f = rw (f 0 e (omega arith), only_alike test then b (λ i d h. f (suc i) d (omega arith)))

-- ---- parts of rising entries

rises_first : (p : Element) (a c : Bucket) → rises_from p (map (λ (e : Entry). Element.key e.key) (a ++ c)) ≡ true → rises_from p (map (λ (e : Entry). Element.key e.key) a) ≡ true
unfolding rises_from
rises_first p [] c h = refl
rises_first p (e ∷ a) c h =
    let w = both (lt p (Element.key e.key)) (rises_from (Element.key e.key) (map (λ (x : Entry). Element.key x.key) (a ++ c))) h in
    rw w.0 (rises_first (Element.key e.key) a c w.1)

rises_second : (p : Element) (a c : Bucket) → rises_from p (map (λ (e : Entry). Element.key e.key) (a ++ c)) ≡ true → entries_rise c ≡ true
unfolding entries_rise IsStrictlySorted rises_from
rises_second p [] [] h = refl
rises_second p [] (e ∷ c) h = (both (lt p (Element.key e.key)) (rises_from (Element.key e.key) (map (λ (x : Entry). Element.key x.key) c)) h).1
rises_second p (e ∷ a) c h = rises_second (Element.key e.key) a c (both (lt p (Element.key e.key)) (rises_from (Element.key e.key) (map (λ (x : Entry). Element.key x.key) (a ++ c))) h).1

-- of entries that rise the first rise, and so do those that follow them
pub rise_parts : (a c : Bucket) → entries_rise (a ++ c) ≡ true → (entries_rise a ≡ true) × (entries_rise c ≡ true)
unfolding entries_rise IsStrictlySorted
rise_parts [] c h = (refl, h)
rise_parts (e ∷ a) c h = (rises_first (Element.key e.key) a c h, rises_second (Element.key e.key) a c h)

-- of entries that rise the first n rise
pub rise_take : (n : ℕ) (b : Bucket) → entries_rise b ≡ true → entries_rise (take n b) ≡ true
rise_take n b h = (rise_parts (take n b) (drop n b) (rw (take-append-drop n b) h)).0

-- of entries that rise those without the first n rise
pub rise_drop : (n : ℕ) (b : Bucket) → entries_rise b ≡ true → entries_rise (drop n b) ≡ true
rise_drop n b h = (rise_parts (take n b) (drop n b) (rw (take-append-drop n b) h)).1

-- a part between two places, the other way round
part_drop : (m n : ℕ) (b : Bucket) → m ≤ n → n ≤ length b → drop m (take n b) ≡ take (n - m) (drop m b)
part_drop m n b h k =
    let e : m + (n - m) ≡ n = omega arith in
    let s : take n b ≡ take m b ++ take (n - m) (drop m b) = rw e at (take-add m (n - m) b) in
    rw s (drop_at (take m b) (take (n - m) (drop m b)) m (length-take-le m b (omega arith)))

-- ---- entries between two elements

module _ (p q : Element) (l : lte p q ≡ true) where
  -- what is below the one is below the other
  pub below_more : (e : Entry) → is_below p e ≡ true → is_below q e ≡ true
  below_more e u = lt_trans_lte (key e.key) p q u l

  pub below_within : (b : Bucket) → entries_below p (entries_below q b) ≡ entries_below p b
  unfolding entries_below
  below_within b = only_within (is_below p) (is_below q) below_more b

  pub below_rises : (b : Bucket) → length (entries_below p b) ≤ length (entries_below q b)
  below_rises b = rw below_within at (below_most p (entries_below q b))

  -- those from the one on that are below the other stand between their places
  pub between_part : (b : Bucket) → entries_rise b ≡ true
      → entries_from p (entries_below q b) ≡ take (length (entries_below q b) - length (entries_below p b)) (drop (length (entries_below p b)) b)
  between_part b r =
      let c = below_take q b r in
      let s : entries_rise (entries_below q b) ≡ true = rw c (rise_take (length (entries_below q b)) b r) in
      from_drop p (entries_below q b) s
      ∙ rw (below_within b)
      (ap (drop (length (entries_below p b))) c ∙ part_drop (length (entries_below p b)) (length (entries_below q b)) b (below_rises b) (below_most q b))

-- ---- the places

module _ (pt : PivotTable) (b : Bucket) where
  -- no place is past the entries
  pub index_most : (i : ℕ) → i < length pt → place_at (Index pt b) i ≤ length b
  index_most i h = rw (index_at pt b i h) (below_most (pivot_at pt i) b)

  -- they rise, weakly
  pub index_rises : IsStrictlySorted pt ≡ true → (i j : ℕ) → i ≤ j → j < length pt → place_at (Index pt b) i ≤ place_at (Index pt b) j
  index_rises s i j h k =
      rw (index_at pt b i (omega arith), index_at pt b j k) (below_rises (pivot_at pt i) (pivot_at pt j) (sorted_lte pt i j s h k) b)

  -- a slot's part has as many entries as lie between its places
  pub slot_length : (i : ℕ) → i < NumBuckets pt → length (slot_entries pt b i) ≡ place_at (Index pt b) (i + 1) - place_at (Index pt b) i
  unfolding slot_entries
  slot_length i h =
      length-take-le (place_at (Index pt b) (i + 1) - place_at (Index pt b) i) (drop (place_at (Index pt b) i) b)
      (omega (arith, index_most (i + 1) (omega arith), length-drop (place_at (Index pt b) i) b))

  -- a slot's entries rise
  pub slots_rise : entries_rise b ≡ true → (i : ℕ) → entries_rise (slot_entries pt b i) ≡ true
  unfolding slot_entries
  slots_rise r i = rise_take (place_at (Index pt b) (i + 1) - place_at (Index pt b) i) (drop (place_at (Index pt b) i) b) (rise_drop (place_at (Index pt b) i) b r)

  -- a slot's entries pass each test that all entries pass
  pub slot_all : (test : Entry → Bool) → all test b ≡ true → (i : ℕ) → all test (slot_entries pt b i) ≡ true
  unfolding slot_entries
  slot_all test h i =
      (all_parts test (place_at (Index pt b) (i + 1) - place_at (Index pt b) i) (drop (place_at (Index pt b) i) b) (all_parts test (place_at (Index pt b) i) b h).1).0

  module _ (n : entries_inside pt b ≡ true) where
    bounds : (i : ℕ) (d : Entry) → i < length b → BoundedKey pt (get_or b i d).key ≡ true
    unfolding entries_inside
    bounds i d h = all_inside (λ (e : Entry). BoundedKey pt e.key) b i d h n

    ends : (i : ℕ) (d : Entry) → i < length b → (lte (pivot_at pt 0) (key (get_or b i d).key) ≡ true) × (lt (key (get_or b i d).key) (last_pivot pt) ≡ true)
    unfolding BoundedKey
    ends i d h = both (lte (pivot_at pt 0) (key (get_or b i d).key)) (lt (key (get_or b i d).key) (last_pivot pt)) (bounds i d h)

    -- none is below the first pivot
    pub none_first : entries_below (pivot_at pt 0) b ≡ []
    unfolding entries_below
    none_first = only_none (is_below (pivot_at pt 0)) b (λ i d h. rw (ends i d h).0)

    -- all entries inside a table are below its last pivot
    pub all_last : entries_below (last_pivot pt) b ≡ b
    unfolding entries_below
    all_last = only_all (is_below (last_pivot pt)) b (λ i d h. (ends i d h).1)

    -- the first place is 0
    pub index_first : 0 < length pt → place_at (Index pt b) 0 ≡ 0
    index_first h = index_at pt b 0 h ∙ rw none_first

    -- the last is the total
    pub index_last : 0 < length pt → place_at (Index pt b) (NumBuckets pt) ≡ length b
    index_last h = index_at pt b (NumBuckets pt) (omega arith) ∙ rw all_last

    -- ---- a slot's part

    module _ (w : WFPivots pt ≡ true) where
      -- a bounded key is routed to slot i where it is below the slot's second pivot and not below its first
      routed : (i : ℕ) → i < NumBuckets pt → (k : Key) → BoundedKey pt k ≡ true → eqb (Route pt k) i ≡ (lt (key k) (pivot_at pt (i + 1)) && not (lt (key k) (pivot_at pt i)))
      routed i h k v = ⊎_elim (λ l. ⊎_elim same before (eq-or-lt_of_le l)) past (le_or_lt (Route pt k) i)
        where
          same : Route pt k ≡ i → eqb (Route pt k) i ≡ (lt (key k) (pivot_at pt (i + 1)) && not (lt (key k) (pivot_at pt i)))
          same e = rw (eq-eqb (Route pt k) i e, route_upper pt k w v (i + 1) (omega arith) (omega arith), route_lower pt k w v i (omega arith))

          before : Route pt k < i → eqb (Route pt k) i ≡ (lt (key k) (pivot_at pt (i + 1)) && not (lt (key k) (pivot_at pt i)))
          before l = rw (ne_eqb (Route pt k) i (λ e. omega arith), route_upper pt k w v i l (omega arith), and-false)

          past : i < Route pt k → eqb (Route pt k) i ≡ (lt (key k) (pivot_at pt (i + 1)) && not (lt (key k) (pivot_at pt i)))
          past l = rw (ne_eqb (Route pt k) i (λ e. omega arith), route_lower pt k w v (i + 1) (omega arith))

      routed_both : (i : ℕ) → i < NumBuckets pt → only (λ (e : Entry). eqb (Route pt e.key) i) b ≡ entries_from (pivot_at pt i) (entries_below (pivot_at pt (i + 1)) b)
      unfolding entries_from entries_below
      routed_both i h =
          only_alike (λ (e : Entry). eqb (Route pt e.key) i) (λ (e : Entry). is_below (pivot_at pt (i + 1)) e && not (is_below (pivot_at pt i) e)) b
          (λ j d l. routed i h (get_or b j d).key (bounds j d l))
          ∙ only_both (is_below (pivot_at pt (i + 1))) (λ (e : Entry). not (is_below (pivot_at pt i) e)) b

      module _ (r : entries_rise b ≡ true) where
        -- it is exactly the entries that Route sends to the slot, in order
        pub slot_routed : (i : ℕ) → i < NumBuckets pt → slot_entries pt b i ≡ only (λ (e : Entry). eqb (Route pt e.key) i) b
        unfolding slot_entries
        slot_routed i h =
            rw (routed_both i h, index_at pt b i (omega arith), index_at pt b (i + 1) (omega arith))
            (sym (between_part (pivot_at pt i) (pivot_at pt (i + 1)) (sorted_lte pt i (i + 1) (wf_sorted pt w) (omega arith) (omega arith)) b r))

        -- a slot without entries has the place where the next begins
        pub slot_empty : (i : ℕ) → i < NumBuckets pt → only (λ (e : Entry). eqb (Route pt e.key) i) b ≡ [] → place_at (Index pt b) i ≡ place_at (Index pt b) (i + 1)
        slot_empty i h e =
            let z : length (slot_entries pt b i) ≡ 0 = rw (slot_routed i h, e) in
            omega (arith, slot_length i h, index_rises (wf_sorted pt w) i (i + 1) (omega arith) (omega arith))
