-- A table cut to the range between two elements: the left, the right and the plain cut are such. Each slot of it lies in one old slot.
use mathlib.Core.Path.{◌≡◌, refl, sym, ◌∙◌}
use mathlib.Core.Logic.{⊎_elim}
use mathlib.Core.Bool.{Bool, true, false, true≢false}
use mathlib.Core.List.{[], ◌∷◌, ◌++◌}
use Prim.Native.Nat.{ℕ, suc, ◌+◌, ◌≤◌, ◌<◌}
use native.Mathlib.Omega.{arith}
use lib.ListN.{length, length-append, get_or-append}
use lib.Seq.{get_or_at}
use Rattle.model.specs.keys.Key.{Key}
use Rattle.model.specs.keys.Order.{Element, key, max, lte, lt, LargestLte, BytesE}
use Rattle.model.specs.ranges.RangePrefix.{InBetween}
use Rattle.model.specs.tables.Tables.{PivotTable, NumBuckets, pivot_at, last_pivot, all, short_element, IsStrictlySorted, BoundedKey, Route, BytesT}
use Rattle.model.specs.cuts.Cuts.{strictly_between}
use Rattle.model.proofs.Lists.{le_or_lt}
use Rattle.model.proofs.keys.Order.{lte_refl, lte_trans, lt_false, false_lt, lt_trans_lte, lte_trans_lt}
use Rattle.model.proofs.keys.Key.{both}
use Rattle.model.proofs.tables.Places.{sorted_at, sorted_lte}
use Rattle.model.proofs.cuts.Between.{Within, cut_rises, cut_twice, kept, all_between, bytes_between}
use Rattle.model.proofs.tables.Slots.{Table, WellFormed, Inside, inside_within, inside_left, slot_from}

-- a, the pivots strictly between a and b, and b
unfoldable pub cut_to : PivotTable → Element → Element → PivotTable
cut_to pt a b = a ∷ strictly_between a b pt ++ (b ∷ [])

-- the range from a to b rises and lies between the first and the last pivot
pub record Spans (pt : PivotTable) (a b : Element) : Type 0 where
  pub table : Table pt
  pub from : lte (pivot_at pt 0) a ≡ true
  pub rises : lt a b ≡ true
  pub upto : lte b (last_pivot pt) ≡ true

module _ (pt : PivotTable) (a b : Element) where
  -- the first pivot of the cut is a
  pub cut_first : pivot_at (cut_to pt a b) 0 ≡ a
  unfolding cut_to
  cut_first = refl

  -- the last is b
  pub cut_last : last_pivot (cut_to pt a b) ≡ b
  unfolding cut_to
  cut_last =
      get_or_at (a ∷ strictly_between a b pt) b [] max (NumBuckets (cut_to pt a b))
      (omega (arith, length-append (strictly_between a b pt) (b ∷ [])))

  -- a key is bounded in the cut where it is in the range
  pub cut_bounded : (k : Key) → BoundedKey (cut_to pt a b) k ≡ InBetween a b k
  unfolding BoundedKey
  cut_bounded k = rw (cut_first, cut_last)

  -- there are at least these two
  cut_many : 2 ≤ length (cut_to pt a b)
  unfolding cut_to
  cut_many = omega (arith, length-append (strictly_between a b pt) (b ∷ []))

  -- a pivot strictly between is kept
  cut_kept : (j : ℕ) → j < length pt → lt a (pivot_at pt j) ≡ true → lt (pivot_at pt j) b ≡ true
      → (i : ℕ) × (i < length (cut_to pt a b)) × (pivot_at (cut_to pt a b) i ≡ pivot_at pt j)
  unfolding cut_to
  cut_kept j h k l =
      let (i, w, e) = kept a b pt j h k l in
      let n = length-append (strictly_between a b pt) (b ∷ []) in
      (suc i, omega arith, get_or-append (strictly_between a b pt) (b ∷ []) max i w ∙ e)

  -- cutting a cut to a range within is cutting the table to it
  pub cut_cut : (a' b' : Element) → Within a b a' b' → cut_to (cut_to pt a b) a' b' ≡ cut_to pt a' b'
  unfolding cut_to
  cut_cut a' b' w = rw (cut_twice a b a' b' w pt)

  -- the cut is of bytes where the table and the range are
  pub cut_bytes_lem : BytesT pt → BytesE a → BytesE b → BytesT (cut_to pt a b)
  unfolding cut_to
  cut_bytes_lem h v w = (v, go (strictly_between a b pt) (bytes_between a b pt h))
    where
      go : (xs : PivotTable) → BytesT xs → BytesT (xs ++ (b ∷ []))
      go [] h = (w, tt)
      go (x ∷ xs) h = (h.0, go xs h.1)

module _ {pt : PivotTable} {a b : Element} (w : Spans pt a b) where
  -- the pivots of the cut rise
  pub cut_table : Table (cut_to pt a b)
  unfolding cut_to IsStrictlySorted
  cut_table = record { sorted = cut_rises a b pt w.rises w.table.sorted; many = cut_many pt a b }

  -- a range within lies in the cut
  pub cut_spans : (a' b' : Element) → Within a b a' b' → lt a' b' ≡ true → Spans (cut_to pt a b) a' b'
  cut_spans a' b' v h =
      record { table = cut_table; from = rw (cut_first pt a b) v.after; rises = h; upto = rw (cut_last pt a b) v.before }

  -- each slot of the cut lies in the old slot of its left end
  pub cut_inside : (i : ℕ) → i + 1 < length (cut_to pt a b)
      → Inside pt (LargestLte pt (pivot_at (cut_to pt a b) i)) (pivot_at (cut_to pt a b) i) (pivot_at (cut_to pt a b) (i + 1))
  cut_inside i h = record { slot = old.slot; from = old.from; rises = rises; upto = go (lte y q) refl }
    where
      s : IsStrictlySorted (cut_to pt a b) ≡ true
      s = cut_table.sorted

      x : Element
      x = pivot_at (cut_to pt a b) i

      y : Element
      y = pivot_at (cut_to pt a b) (i + 1)

      rises : lt x y ≡ true
      rises = sorted_at (cut_to pt a b) i (i + 1) s (omega arith) h

      after : lte a x ≡ true
      after = rw (cut_first pt a b) at (sorted_lte (cut_to pt a b) 0 i s (omega arith) (omega arith))

      before : lte y b ≡ true
      before = rw (cut_last pt a b) at (sorted_lte (cut_to pt a b) (i + 1) (NumBuckets (cut_to pt a b)) s (omega arith) (omega arith))

      old : Inside pt (LargestLte pt x) x (pivot_at pt (LargestLte pt x + 1))
      old =
          slot_from w.table x (lte_trans (pivot_at pt 0) a x w.from after)
          (lt_trans_lte x y (last_pivot pt) rises (lte_trans y b (last_pivot pt) before w.upto))

      q : Element
      q = pivot_at pt (LargestLte pt x + 1)

      -- a pivot between x and y would stand between them in the cut
      apart : lt q y ≡ true → ⊥
      apart k =
          let m = lte_trans_lt a x q after old.rises in
          let (j, l, e) = cut_kept pt a b (LargestLte pt x + 1) old.slot m (lt_trans_lte q y b k before) in
          ⊎_elim
          (λ (d : j ≤ i). true≢false (sym (rw e at (sorted_lte (cut_to pt a b) j i s d (omega arith))) ∙ lt_false x q old.rises))
          (λ (d : i < j). true≢false (sym (rw e at (sorted_lte (cut_to pt a b) (i + 1) j s (omega arith) l)) ∙ lt_false q y k))
          (le_or_lt j i)

      go : (t : Bool) → lte y q ≡ t → t ≡ true
      go true e = refl
      go false e = absurd (apart (false_lt q y e))

  module _ (k : Key) (h : BoundedKey (cut_to pt a b) k ≡ true) where
    -- a key of the range has a slot in the cut
    pub cut_slot : Inside (cut_to pt a b) (Route (cut_to pt a b) k) (key k) (pivot_at (cut_to pt a b) (Route (cut_to pt a b) k + 1))
    unfolding BoundedKey Route
    cut_slot =
        let v = both (lte (pivot_at (cut_to pt a b) 0) (key k)) (lt (key k) (last_pivot (cut_to pt a b))) h in
        slot_from cut_table (key k) v.0 v.1

    -- that lies in its old slot
    pub cut_route : LargestLte pt (pivot_at (cut_to pt a b) (Route (cut_to pt a b) k)) ≡ Route pt k
    unfolding Route
    cut_route =
        let i = Route (cut_to pt a b) k in
        let y = pivot_at (cut_to pt a b) (i + 1) in
        let v : Within (pivot_at (cut_to pt a b) i) y (key k) y = record { after = cut_slot.from; before = lte_refl y } in
        sym (inside_left w.table (inside_within (key k) y (cut_inside i cut_slot.slot) v cut_slot.rises))

  -- the cut is well formed where the table is, and the range's ends have at most 64 bytes
  pub cut_wf : WellFormed pt → short_element a ≡ true → short_element b ≡ true → WellFormed (cut_to pt a b)
  unfolding cut_to all
  cut_wf v f g = record { table = cut_table; short = rw f (go (strictly_between a b pt) (all_between a b short_element pt v.short)) }
    where
      go : (xs : PivotTable) → all short_element xs ≡ true → all short_element (xs ++ (b ∷ [])) ≡ true
      go [] h = rw g
      go (x ∷ xs) h = let p = both (short_element x) (all short_element xs) h in rw p.0 (go xs p.1)
