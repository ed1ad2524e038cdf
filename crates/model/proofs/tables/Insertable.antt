-- PivotInsertable: the key is strictly between the pivots on both sides of the place, and so the last places by both tests are this place.
use mathlib.Core.Path.{◌≡◌, refl, sym, ap, ◌∙◌}
use mathlib.Core.Logic.{⊎_elim}
use mathlib.Core.Bool.{Bool, true, false, not, ◌&&◌, true≢false}
use Prim.Native.Nat.{ℕ, ◌+◌, ◌-◌, ◌≤◌, ◌<◌}
use native.Mathlib.Nat.{eq-or-lt_of_le}
use native.Mathlib.Omega.{arith}
use borrow.Author.Tests.{ltb-true, leb-true, eqb-true, lt-ltb, le-leb, eq-eqb}
use lib.Dec.{eqb, leb, ltb}
use lib.ListN.{length}
use Rattle.model.specs.keys.Key.{Key}
use Rattle.model.specs.keys.Order.{Element, key, max, lt, passes, last_place, LargestLte}
use Rattle.model.specs.tables.Tables.{PivotTable, pivot_at, last_pivot, implies, IsStrictlySorted, BoundedKey, Route, PivotInsertable}
use Rattle.model.proofs.Lists.{le_or_lt}
use Rattle.model.proofs.keys.Order.{lt_lte, lt_false, false_lt}
use Rattle.model.proofs.tables.Places.{place_most, place_passes, place_after, place_turn, place_all, bounded_place}
use Rattle.model.proofs.keys.Key.{both}

-- tests that give each other are equal
equal : (a b : Bool) → (a ≡ true → b ≡ true) → (b ≡ true → a ≡ true) → a ≡ b
equal true b f g = sym (f refl)
equal false true f g = g refl
equal false false f g = refl

-- both parts make a conjunction
conj : (a b : Bool) → a ≡ true → b ≡ true → (a && b) ≡ true
conj a b h k = rw h k

-- a conjunction of five holds in each
five : (a b c d e : Bool) → (a && b && c && d && e) ≡ true → (a ≡ true) × (b ≡ true) × (c ≡ true) × (d ≡ true) × (e ≡ true)
five a b c d e h =
    let t = both (a && b && c && d) e h in
    let u = both (a && b && c) d t.0 in
    let v = both (a && b) c u.0 in
    let w = both a b v.0 in
    (w.0, w.1, v.1, u.1, t.1)

-- a test that is implied, and what implies it
implied : (a b : Bool) → implies a b ≡ true → a ≡ true → b ≡ true
implied true b h e = h
implied false b h e = absurd (true≢false (sym e))

implying : (a b : Bool) → (a ≡ true → b ≡ true) → implies a b ≡ true
implying true b f = f refl
implying false b f = refl

-- what is below the key passes both tests, and what is above it neither
module _ (k : Key) where
  passes_below : (strict : Bool) (p : Element) → lt p (key k) ≡ true → passes strict (key k) p ≡ true
  passes_below true p h = h
  passes_below false p h = lt_lte p (key k) h

  fails_above : (strict : Bool) (p : Element) → lt (key k) p ≡ true → passes strict (key k) p ≡ false
  fails_above true p h = ap not (lt_lte (key k) p h)
  fails_above false p h = lt_false (key k) p h

-- the key is above the pivot before the place and below the one at it, as far as there are such
pub record Gap (pt : PivotTable) (i : ℕ) (k : Key) : Type 0 where
  pub inside : i ≤ length pt
  pub left : 0 < i → lt (pivot_at pt (i - 1)) (key k) ≡ true
  pub right : i < length pt → lt (key k) (pivot_at pt i) ≡ true

module _ (pt : PivotTable) (i : ℕ) (k : Key) (s : IsStrictlySorted pt ≡ true) (c : 2 ≤ length pt) where
  -- such a place is the last place by both tests
  gap_place : (strict : Bool) → Gap pt i k → last_place (passes strict (key k)) pt ≡ i
  gap_place strict g = ⊎_elim end middle (eq-or-lt_of_le g.inside)
    where
      end : i ≡ length pt → last_place (passes strict (key k)) pt ≡ i
      end e = place_all strict (key k) pt (omega arith) (passes_below k strict (last_pivot pt) (rw e at (g.left (omega arith)))) ∙ sym e

      middle : i < length pt → last_place (passes strict (key k)) pt ≡ i
      middle h =
          place_turn strict (key k) pt i s h (λ l. passes_below k strict (pivot_at pt (i - 1)) (g.left l))
          (fails_above k strict (pivot_at pt i) (g.right h))

  -- and the last place by both is such a place
  place_gap : last_place (passes false (key k)) pt ≡ i → last_place (passes true (key k)) pt ≡ i → Gap pt i k
  place_gap e f = record {
    inside = rw e at (place_most (passes false (key k)) pt);
    left = rw f at (place_passes (passes true (key k)) pt max);
    right = λ h. false_lt (key k) (pivot_at pt i) (place_after (passes false (key k)) pt max i (omega arith) h);
  }

  -- the four conditions of PivotInsertable on the key
  abbrev at_start : Bool
  at_start = implies (eqb i 0) (lt (key k) (pivot_at pt 0))

  abbrev at_end : Bool
  at_end = implies (eqb i (length pt)) (lt (last_pivot pt) (key k))

  abbrev between : Bool
  between = implies (ltb 0 i && ltb i (length pt)) (lt (pivot_at pt (i - 1)) (key k) && lt (key k) (pivot_at pt i))

  abbrev routed : Bool
  routed = implies (BoundedKey pt k) (eqb (Route pt k + 1) i)

  -- a bounded key routes to the slot on the left of such a place
  gap_route : Gap pt i k → BoundedKey pt k ≡ true → Route pt k + 1 ≡ i
  unfolding Route LargestLte
  gap_route g b =
      let n = last_place (passes false (key k)) pt in
      let h = both (ltb 0 n) (ltb n (length pt)) (sym (bounded_place pt k s c) ∙ b) in
      omega (arith, gap_place false g, ltb-true 0 n h.0)

  -- at such a place the key can be inserted
  pub gap_insertable : Gap pt i k → PivotInsertable pt i k ≡ true
  unfolding PivotInsertable
  gap_insertable g = rw (le-leb i (length pt) g.inside, start, end, middle, routes)
    where
      routes : routed ≡ true
      routes = implying (BoundedKey pt k) (eqb (Route pt k + 1) i) (λ b. eq-eqb (Route pt k + 1) i (gap_route g b))

      start : at_start ≡ true
      start = implying (eqb i 0) (lt (key k) (pivot_at pt 0)) (λ e. let z = eqb-true i 0 e in rw z at (g.right (omega arith)))

      end : at_end ≡ true
      end =
          implying (eqb i (length pt)) (lt (last_pivot pt) (key k)) (λ e. let z = eqb-true i (length pt) e in rw z at (g.left (omega arith)))

      middle : between ≡ true
      middle =
          implying (ltb 0 i && ltb i (length pt)) (lt (pivot_at pt (i - 1)) (key k) && lt (key k) (pivot_at pt i))
          (λ e. let b = both (ltb 0 i) (ltb i (length pt)) e in
          conj (lt (pivot_at pt (i - 1)) (key k)) (lt (key k) (pivot_at pt i)) (g.left (ltb-true 0 i b.0)) (g.right (ltb-true i (length pt) b.1)))

  -- a place where the key can be inserted is such a place
  pub insertable_gap : PivotInsertable pt i k ≡ true → Gap pt i k
  unfolding PivotInsertable
  insertable_gap h = record { inside = leb-true i (length pt) parts.0; left = left; right = right }
    where
      parts : (leb i (length pt) ≡ true) × (at_start ≡ true) × (at_end ≡ true) × (between ≡ true) × (routed ≡ true)
      parts = five (leb i (length pt)) at_start at_end between routed h

      middle : 0 < i → i < length pt → (lt (pivot_at pt (i - 1)) (key k) ≡ true) × (lt (key k) (pivot_at pt i) ≡ true)
      middle a b =
          both (lt (pivot_at pt (i - 1)) (key k)) (lt (key k) (pivot_at pt i))
          (implied (ltb 0 i && ltb i (length pt)) _ parts.3 (conj (ltb 0 i) (ltb i (length pt)) (lt-ltb 0 i a) (lt-ltb i (length pt) b)))

      left : 0 < i → lt (pivot_at pt (i - 1)) (key k) ≡ true
      left a =
          ⊎_elim (λ (e : i ≡ length pt). rw e (implied (eqb i (length pt)) (lt (last_pivot pt) (key k)) parts.2 (eq-eqb i (length pt) e)))
          (λ (b : i < length pt). (middle a b).0) (eq-or-lt_of_le (leb-true i (length pt) parts.0))

      right : i < length pt → lt (key k) (pivot_at pt i) ≡ true
      right b =
          ⊎_elim (λ (e : i ≤ 0). let z : i ≡ 0 = omega arith in rw z (implied (eqb i 0) (lt (key k) (pivot_at pt 0)) parts.1 (eq-eqb i 0 z)))
          (λ (a : 0 < i). (middle a b).1) (le_or_lt i 0)

  -- a key can be inserted at i where i pivots are not above it, and i are below it
  pub insertable_place : PivotInsertable pt i k
      ≡ (eqb (last_place (passes false (key k)) pt) i && eqb (last_place (passes true (key k)) pt) i)
  insertable_place =
      equal (PivotInsertable pt i k) (eqb (last_place (passes false (key k)) pt) i && eqb (last_place (passes true (key k)) pt) i)
      (λ h. let g = insertable_gap h in rw (gap_place false g, gap_place true g, eq-eqb i i refl))
      (λ h. let b = both (eqb (last_place (passes false (key k)) pt) i) (eqb (last_place (passes true (key k)) pt) i) h in
      gap_insertable (place_gap (eqb-true (last_place (passes false (key k)) pt) i b.0) (eqb-true (last_place (passes true (key k)) pt) i b.1)))
