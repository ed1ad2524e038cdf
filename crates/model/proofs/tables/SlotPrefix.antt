-- "The prefix that we replace is the longest that all keys of that shelf share": the prefix of a slot's range, by the keys that Route sends to the slot.
use mathlib.Core.Path.{◌≡◌, refl, sym}
use mathlib.Core.Bool.{true, false, true≢false, false≢true}
use mathlib.Core.List.{[], ◌∷◌}
use Prim.Native.Nat.{ℕ, ◌+◌, ◌≤◌, ◌<◌}
use native.Mathlib.Omega.{arith}
use borrow.Author.Tests.{leb-true, eq-eqb, not-true}
use lib.ListN.{length}
use Rattle.model.specs.keys.Key.{Key, Bytes, max_len, is_nil, IsPrefix}
use Rattle.model.specs.keys.Order.{Element, key, max, lte, lt}
use Rattle.model.specs.records.Record.{edge}
use Rattle.model.specs.ranges.RangePrefix.{PivotLcp, InBetween}
use Rattle.model.specs.tables.Tables.{PivotTable, EdgeTable, NumBuckets, pivot_at, edge_at, short_element, WFPivots, BoundedKey, Route, GetKey, edge_fits, WFEdges, BytesT}
use Rattle.model.proofs.keys.Key.{both, prefix_length, prefix_trans}
use Rattle.model.proofs.ranges.RangePrefix.{prefix_of_left, shared, longest}
use Rattle.model.proofs.tables.Places.{sorted_at}
use Rattle.model.proofs.tables.Routing.{wf_sorted, wf_keys, wf_short, get_key, route_between, slot_bounded, slot_is_route}
use Rattle.model.proofs.cuts.Between.{bytes_at}
use Rattle.model.proofs.cuts.CutEdges.{edges_say}

-- the prefix of a range is no longer than its left end
pub range_prefix_short : (l r : Element) → short_element l ≡ true → length (PivotLcp l r) ≤ max_len
unfolding PivotLcp
range_prefix_short (key l) r h = omega (arith, prefix_length (PivotLcp (key l) r) l (prefix_of_left l r), leb-true (length l) max_len h)
range_prefix_short max r h = omega arith

module _ (pt : PivotTable) (w : WFPivots pt ≡ true) (t : BytesT pt) (i : ℕ) (h : i < NumBuckets pt) where
  l : Key
  l = GetKey pt i

  left_is : pivot_at pt i ≡ key l
  unfolding l
  left_is = get_key pt i (wf_keys pt w i h)

  -- it begins every key that Route sends to the slot
  pub slot_prefix_shared : (k : Key) → Bytes k → BoundedKey pt k ≡ true → Route pt k ≡ i → IsPrefix (PivotLcp (pivot_at pt i) (pivot_at pt (i + 1))) k ≡ true
  slot_prefix_shared k b c r =
      rw left_is (shared l (pivot_at pt (i + 1)) k b (rw (r, left_is) at (route_between pt k w c)))

  -- whatever begins all keys of the slot, of at most 64 bytes, begins the slot's prefix
  pub slot_prefix_longest : (p : Key)
      → ((k : Key) → Bytes k → length k ≤ max_len → BoundedKey pt k ≡ true → Route pt k ≡ i → IsPrefix p k ≡ true)
      → IsPrefix p (PivotLcp (pivot_at pt i) (pivot_at pt (i + 1))) ≡ true
  slot_prefix_longest p f =
      rw left_is
      (longest l (pivot_at pt (i + 1)) p (rw left_is at (bytes_at pt i t)) (bytes_at pt (i + 1) t)
      (leb-true (length l) max_len (rw left_is at (wf_short pt w i (omega arith))))
      (rw left_is at (sorted_at pt i (i + 1) (wf_sorted pt w) (omega arith) (omega arith))) each)
    where
      each : (k : Key) → Bytes k → length k ≤ max_len → InBetween (key l) (pivot_at pt (i + 1)) k ≡ true → IsPrefix p k ≡ true
      each k b s j =
          let c = both (lte (key l) (key k)) (lt (key k) (pivot_at pt (i + 1))) j in
          let d : lte (pivot_at pt i) (key k) ≡ true = rw left_is c.0 in
          f k b s (slot_bounded pt k w i h d c.1) (sym (slot_is_route pt k w i h d c.1))

-- ---- what cause 4 is for

-- an edge stands only over a prefix that isn't empty
edge_over : (et : EdgeTable) (pt : PivotTable) (i : ℕ) (q : Key) → WFEdges et pt ≡ true → i + 1 < length pt → edge_at et i ≡ edge q
    → is_nil (PivotLcp (pivot_at pt i) (pivot_at pt (i + 1))) ≡ false
edge_over et pt i q w h e =
    not-true (is_nil (PivotLcp (pivot_at pt i) (pivot_at pt (i + 1)))) (rw e at ((edges_say et pt w).fits i h))

-- a list that isn't empty begins with its first byte
first_byte : (p : Key) → is_nil p ≡ false → (x : ℕ) × (IsPrefix (x ∷ []) p ≡ true)
unfolding IsPrefix
first_byte [] h = absurd (true≢false h)
first_byte (x ∷ p) h = (x, rw (eq-eqb x x refl))

module _ (pt : PivotTable) (et : EdgeTable) (w : WFPivots pt ≡ true) (v : WFEdges et pt ≡ true) (t : BytesT pt) (i : ℕ) (h : i < NumBuckets pt) where
  -- where a slot of a well-formed table has an edge, all keys that Route sends to it share their first byte
  pub edge_shares : (q : Key) → edge_at et i ≡ edge q
      → (x : ℕ) × ((k : Key) → Bytes k → BoundedKey pt k ≡ true → Route pt k ≡ i → IsPrefix (x ∷ []) k ≡ true)
  edge_shares q e =
      let (x, b) = first_byte (PivotLcp (pivot_at pt i) (pivot_at pt (i + 1))) (edge_over et pt i q v (omega arith) e) in
      (x, λ k c d r. prefix_trans (x ∷ []) _ k b (slot_prefix_shared pt w t i h k c d r))

  -- where all keys that Route sends to a slot share their first byte, an edge may stand there
  pub shares_edge : (x : ℕ) → ((k : Key) → Bytes k → length k ≤ max_len → BoundedKey pt k ≡ true → Route pt k ≡ i → IsPrefix (x ∷ []) k ≡ true)
      → (q : Key) → edge_fits (PivotLcp (pivot_at pt i) (pivot_at pt (i + 1))) (edge q) ≡ true
  shares_edge x f q = go (PivotLcp (pivot_at pt i) (pivot_at pt (i + 1))) (slot_prefix_longest pt w t i h (x ∷ []) f)
    where
      go : (p : Key) → IsPrefix (x ∷ []) p ≡ true → edge_fits p (edge q) ≡ true
      go [] e = absurd (false≢true (unfold IsPrefix in e))
      go (y ∷ p) e = refl
