-- BoundedPivotsLib, lines 177 to 197, 229 to 234, 294 to 308, 336 to 350 and 378: the slot of a key, and the cut-offs.
use Rattle.std.specs.Prelude.{Ok, Err}
use mathlib.Core.Path.{◌≡◌, refl, sym}
use mathlib.Core.Bool.{true, false, ◌&&◌}
use mathlib.Core.List.{List}
use Prim.Native.Nat.{ℕ, ◌+◌, ◌-◌, ◌≤◌, ◌<◌}
use native.Mathlib.Omega.{arith}
use borrow.Author.Tests.{eqb-true, eq-eqb}
use lib.Dec.{eqb}
use lib.ListN.{length}
use Rattle.model.specs.declared.Refusal.TheVariants.{Shape, OutOfRange}
use Rattle.model.specs.keys.Key.{Key, max_len}
use Rattle.model.specs.keys.Order.{key, lte, lt}
use Rattle.model.specs.ranges.RangePrefix.{InBetween}
use Rattle.model.specs.records.Record.{elements, encode_all}
use Rattle.model.specs.tables.Tables.{PivotTable, NumBuckets, max_pivots, pivot_at, WFPivots, BoundedKey, ValidLeftCutOffKey, GetKey, Route, CutoffForLeft, CutoffForRight}
use Rattle.model.specs.calls.TableCalls.{key_causes, slot_causes, route_answer, cutoff_for_left_answer, cutoff_for_right_answer, pivot_causes}
use Rattle.model.proofs.keys.Key.{both}
use Rattle.model.proofs.tables.Places.{sorted_at}
use Rattle.model.proofs.tables.Routing.{wf_sorted, route_inside, route_lower, route_upper, route_between, slot_bounded, slot_is_route, pivot_bounded, route_of_pivot, cutoff_right_is_route}
use Rattle.model.proofs.tables.Routing.{cutoff_left_inside, cutoff_left_lower, cutoff_left_upper}
use Rattle.model.proofs.calls.Refusals.{not_fails}
use Rattle.contracts.specs.Refuses.{RefusesAt, Refuses}
use Rattle.contracts.specs.BoundedPivots.{PivotTableBucketKeySet}
use Rattle.contracts.proofs.Tests.{same_tests}
use Rattle.contracts.proofs.Refusing.{refuses_at, too_many, more_refused, call_refuses, pivots_refused}
use Rattle.contracts.proofs.Lent.{accepted, pivots_read_lem, slot_lent}

-- ---- Route

module _ (pt : PivotTable) (k : Key) (w : WFPivots pt ≡ true) (b : BoundedKey pt k ≡ true) where
  -- ensures 0 <= i < |pt|-1 && Keyspace.lt(pt[i], pt[i+1])
  pub bounded_pivots_180 : (Route pt k < length pt - 1) × (lt (pivot_at pt (Route pt k)) (pivot_at pt (Route pt k + 1)) ≡ true)
  bounded_pivots_180 =
      let i = route_inside pt k w b in
      (i, sorted_at pt (Route pt k) (Route pt k + 1) (wf_sorted pt w) (omega arith) (omega arith))

  -- ensures InBetween(pt[i], pt[i+1], key)
  pub bounded_pivots_181 : InBetween (pivot_at pt (Route pt k)) (pivot_at pt (Route pt k + 1)) k ≡ true
  bounded_pivots_181 = route_between pt k w b

  -- ensures 0 <= CutoffForRight(pt, pivot) < NumBuckets(pt)
  pub bounded_pivots_339 : CutoffForRight pt k < NumBuckets pt
  bounded_pivots_339 = rw (cutoff_right_is_route pt k) (route_inside pt k w b)

  -- ensures forall i | 0 <= i <= CutoffForRight(pt, pivot) :: Keyspace.lte(pt[i], KeyToElement(pivot));
  pub bounded_pivots_340 : (i : ℕ) → i ≤ CutoffForRight pt k → lte (pivot_at pt i) (key k) ≡ true
  bounded_pivots_340 = rw (cutoff_right_is_route pt k) (route_lower pt k w b)

  -- ensures forall i | CutoffForRight(pt, pivot) < i < |pt| :: Keyspace.lt(KeyToElement(pivot), pt[i]);
  pub bounded_pivots_341 : (i : ℕ) → CutoffForRight pt k < i → i < length pt → lt (key k) (pivot_at pt i) ≡ true
  bounded_pivots_341 = rw (cutoff_right_is_route pt k) (route_upper pt k w b)

-- Quick lemma for proving that Route(pt, key) == idx
pub bounded_pivots_197 : (pt : PivotTable) (k : Key) (i : ℕ) → WFPivots pt ≡ true → i < NumBuckets pt → InBetween (pivot_at pt i) (pivot_at pt (i + 1)) k ≡ true → Route pt k ≡ i
bounded_pivots_197 pt k i w h j =
    let c = both (lte (pivot_at pt i) (key k)) (lt (key k) (pivot_at pt (i + 1))) j in sym (slot_is_route pt k w i h c.0 c.1)

-- lemma for showing every pivot except for the last one is a bounded key
pub bounded_pivots_229 : (pt : PivotTable) (i : ℕ) → WFPivots pt ≡ true → i < NumBuckets pt → BoundedKey pt (GetKey pt i) ≡ true
bounded_pivots_229 pt i w h = pivot_bounded pt i w h

-- Demonstrates that each bucket is non-empty
-- its left pivot is a key in it
pub bounded_pivots_231 : (pt : PivotTable) (i : ℕ) → WFPivots pt ≡ true → i < NumBuckets pt → PivotTableBucketKeySet pt i (GetKey pt i) ≡ true
unfolding PivotTableBucketKeySet
bounded_pivots_231 pt i w h = rw (pivot_bounded pt i w h) (eq-eqb _ i (route_of_pivot pt i w h))

-- function PivotTableBucketKeySet(pt: PivotTable, i: int) : iset<Key>
-- the set is the keys from pivot i up to, but without, the next
pub bounded_pivots_378 : (pt : PivotTable) (i : ℕ) (k : Key) → WFPivots pt ≡ true → i < NumBuckets pt → PivotTableBucketKeySet pt i k ≡ InBetween (pivot_at pt i) (pivot_at pt (i + 1)) k
unfolding PivotTableBucketKeySet
bounded_pivots_378 pt i k w h =
    same_tests (BoundedKey pt k && eqb (Route pt k) i) (InBetween (pivot_at pt i) (pivot_at pt (i + 1)) k)
    (λ t. let c = both (BoundedKey pt k) (eqb (Route pt k) i) t in rw (eqb-true (Route pt k) i c.1) at (route_between pt k w c.0))
    (λ t. let c = both (lte (pivot_at pt i) (key k)) (lt (key k) (pivot_at pt (i + 1))) t in
    rw (slot_bounded pt k w i h c.0 c.1) (eq-eqb (Route pt k) i (bounded_pivots_197 pt k i w h t)))

-- ---- CutoffForLeft

module _ (pt : PivotTable) (k : Key) (w : WFPivots pt ≡ true) (v : ValidLeftCutOffKey pt k ≡ true) where
  -- ensures 0 <= CutoffForLeft(pt, pivot) < NumBuckets(pt)
  pub bounded_pivots_297 : CutoffForLeft pt k < NumBuckets pt
  bounded_pivots_297 = cutoff_left_inside pt k w v

  -- ensures forall i | 0 <= i <= CutoffForLeft(pt, pivot) :: Keyspace.lt(pt[i], KeyToElement(pivot));
  pub bounded_pivots_298 : (i : ℕ) → i ≤ CutoffForLeft pt k → lt (pivot_at pt i) (key k) ≡ true
  bounded_pivots_298 = cutoff_left_lower pt k w v

  -- ensures forall i | CutoffForLeft(pt, pivot) < i < |pt| :: Keyspace.lte(KeyToElement(pivot), pt[i]);
  pub bounded_pivots_299 : (i : ℕ) → CutoffForLeft pt k < i → i < length pt → lte (key k) (pivot_at pt i) ≡ true
  bounded_pivots_299 = cutoff_left_upper pt k w v

-- ---- the calls, of the pivots p and the key k

module _ (p : List ℕ) (k : Key) where
  -- requires |pt| < 0x4000_0000_0000_0000
  pub bounded_pivots_188 : max_pivots < length (elements p) → RefusesAt Err (slot_causes p k (BoundedKey (elements p) k)) 0 Shape (route_answer p k)
  unfolding pivot_causes
  bounded_pivots_188 h = refuses_at _ _ (slot_causes p k (BoundedKey (elements p) k)) 0 _ _ _ refl (too_many p h)

  -- requires WFPivots(pt)
  pub bounded_pivots_189 : WFPivots (elements p) ≡ false → Refuses Err 3 (route_answer p k)
  bounded_pivots_189 h = call_refuses _ _ 3 _ (more_refused 3 (key_causes p k) _ (pivots_refused _ _ p h))

  -- requires BoundedKey(pt, key)
  pub bounded_pivots_190 : BoundedKey (elements p) k ≡ false → RefusesAt Err (slot_causes p k (BoundedKey (elements p) k)) 3 OutOfRange (route_answer p k)
  unfolding pivot_causes
  bounded_pivots_190 h = refuses_at _ _ (slot_causes p k (BoundedKey (elements p) k)) 3 _ _ _ refl (not_fails _ h)

  -- requires |pt| < 0x4000_0000_0000_0000
  pub bounded_pivots_305 : max_pivots < length (elements p) → RefusesAt Err (slot_causes p k (ValidLeftCutOffKey (elements p) k)) 0 Shape (cutoff_for_left_answer p k)
  unfolding pivot_causes
  bounded_pivots_305 h = refuses_at _ _ (slot_causes p k (ValidLeftCutOffKey (elements p) k)) 0 _ _ _ refl (too_many p h)

  -- requires WFPivots(pt)
  pub bounded_pivots_306 : WFPivots (elements p) ≡ false → Refuses Err 3 (cutoff_for_left_answer p k)
  bounded_pivots_306 h = call_refuses _ _ 3 _ (more_refused 3 (key_causes p k) _ (pivots_refused _ _ p h))

  -- requires ValidLeftCutOffKey(pt, pivot)
  pub bounded_pivots_307 : ValidLeftCutOffKey (elements p) k ≡ false → RefusesAt Err (slot_causes p k (ValidLeftCutOffKey (elements p) k)) 3 OutOfRange (cutoff_for_left_answer p k)
  unfolding pivot_causes
  bounded_pivots_307 h = refuses_at _ _ (slot_causes p k (ValidLeftCutOffKey (elements p) k)) 3 _ _ _ refl (not_fails _ h)

  -- requires |pt| < 0x4000_0000_0000_0000
  pub bounded_pivots_347 : max_pivots < length (elements p) → RefusesAt Err (slot_causes p k (BoundedKey (elements p) k)) 0 Shape (cutoff_for_right_answer p k)
  unfolding pivot_causes
  bounded_pivots_347 h = refuses_at _ _ (slot_causes p k (BoundedKey (elements p) k)) 0 _ _ _ refl (too_many p h)

  -- requires WFPivots(pt)
  pub bounded_pivots_348 : WFPivots (elements p) ≡ false → Refuses Err 3 (cutoff_for_right_answer p k)
  bounded_pivots_348 h = call_refuses _ _ 3 _ (more_refused 3 (key_causes p k) _ (pivots_refused _ _ p h))

  -- requires BoundedKey(pt, pivot)
  pub bounded_pivots_349 : BoundedKey (elements p) k ≡ false → RefusesAt Err (slot_causes p k (BoundedKey (elements p) k)) 3 OutOfRange (cutoff_for_right_answer p k)
  unfolding pivot_causes
  bounded_pivots_349 h = refuses_at _ _ (slot_causes p k (BoundedKey (elements p) k)) 3 _ _ _ refl (not_fails _ h)

-- lent the records of a table, and a key
module _ (pt : PivotTable) (k : Key) (w : WFPivots pt ≡ true) (m : length pt ≤ max_pivots) (s : length k ≤ max_len) where
  -- ensures i as int == Route(pt, key)
  pub bounded_pivots_191 : BoundedKey pt k ≡ true → route_answer (encode_all pt) k ≡ Ok (Route pt k)
  bounded_pivots_191 b = rw (pivots_read_lem pt w) (accepted _ _ (slot_causes (encode_all pt) k (BoundedKey pt k)) (slot_lent pt w k _ m s b))

  -- ensures i as int == CutoffForLeft(pt, pivot)
  pub bounded_pivots_308 : ValidLeftCutOffKey pt k ≡ true → cutoff_for_left_answer (encode_all pt) k ≡ Ok (CutoffForLeft pt k)
  bounded_pivots_308 v = rw (pivots_read_lem pt w) (accepted _ _ (slot_causes (encode_all pt) k (ValidLeftCutOffKey pt k)) (slot_lent pt w k _ m s v))

  -- ensures i as int == CutoffForRight(pt, pivot)
  pub bounded_pivots_350 : BoundedKey pt k ≡ true → cutoff_for_right_answer (encode_all pt) k ≡ Ok (CutoffForRight pt k)
  bounded_pivots_350 b = rw (pivots_read_lem pt w) (accepted _ _ (slot_causes (encode_all pt) k (BoundedKey pt k)) (slot_lent pt w k _ m s b))
