-- TranslationLib, lines 132, 133, 247 to 277 and 413: an element, a range and a slot under another prefix, and parent and child.
use Rattle.std.specs.Prelude.{Err}
use mathlib.Core.Path.{◌≡◌, refl, sym, ◌∙◌}
use mathlib.Core.Bool.{true, false, false≢true}
use mathlib.Core.List.{List}
use Prim.Native.Nat.{ℕ, ◌+◌, ◌-◌, ◌≤◌, ◌<◌}
use native.Mathlib.Omega.{arith}
use lib.Dec.{leb}
use lib.ListN.{length}
use Rattle.model.specs.declared.Refusal.TheVariants.{TooLong}
use Rattle.model.specs.keys.Key.{Key, Bytes, max_len, IsPrefix}
use Rattle.model.specs.keys.Order.{Element, key, max, is_key, lt}
use Rattle.model.specs.records.Record.{edge, no_edge}
use Rattle.model.specs.ranges.RangePrefix.{PivotLcp}
use Rattle.model.specs.ranges.UpperBound.{ShortestUncommonPrefix}
use Rattle.model.specs.tables.Tables.{PivotTable, EdgeTable, NumBuckets, pivot_at, edge_at, key_of, short_element, WFPivots, ContainsRange, BytesT, slot_prefix}
use Rattle.model.specs.translation.Renaming.{TranslateElement, translate_right, TranslatePivotPairInternal, Lacks, is_max, other}
use Rattle.model.specs.translation.ParentChild.{slot_bounds, bounds_under, ParentKeysInChildRange}
use Rattle.model.specs.calls.RenamingCalls.{new_bounds, pivot_pair_answer, pivot_pair_causes}
use Rattle.model.proofs.keys.ChangePrefix.{change_begins}
use Rattle.model.proofs.ranges.RangePrefix.{prefix_of_left}
use Rattle.model.proofs.tables.Places.{sorted_at}
use Rattle.model.proofs.tables.Routing.{wf_sorted, wf_keys, wf_all_short}
use Rattle.model.proofs.cuts.Between.{bytes_at}
use Rattle.model.proofs.translation.ParentChild.{parent_child_none}
use Rattle.model.proofs.translation.PivotPair.{element_short, right_short, pair_rises, pair_shares}
use Rattle.contracts.specs.Refuses.{RefusesAt}
use Rattle.contracts.specs.BoundedPivots.{ElementIsKey}
use Rattle.contracts.specs.Translation.{AllKeysInBetweenHasPrefix, ShortestUncommonPrefixAt}
use Rattle.contracts.proofs.bounded_pivots.Tables.{bounded_pivots_37}
use Rattle.contracts.proofs.LongRefused.{left_refused, right_refused}
use Rattle.contracts.proofs.translation_lib.Ranges.{translation_lib_215}

-- ---- one element

module _ (p q k : Key) where
  -- ensures ElementIsKey(e')
  -- it holds exactly where the produced length is at most 64; past that the call that translates a range from k answers 8, unless a cause before it applies
  pub translation_lib_247 : (ElementIsKey (TranslateElement p q (key k)) ≡ leb (length q + (length k - length p)) max_len)
      × ((r d : List ℕ) → ElementIsKey (TranslateElement p q (key k)) ≡ false → RefusesAt Err (pivot_pair_causes k r p q d) 3 TooLong (pivot_pair_answer k r p q d))
  unfolding TranslateElement TranslatePivotPairInternal
  translation_lib_247 = (element_short p q k, λ r d. left_refused k r p q d)

  -- ensures IsPrefix(newPrefix, e'.e)
  pub translation_lib_248 : IsPrefix q (key_of (TranslateElement p q (key k))) ≡ true
  unfolding TranslateElement
  translation_lib_248 = change_begins p q k

-- ---- a slot

-- function TranslatePivotPair(pt: PivotTable, et: EdgeTable, slot: int) : (p: (Element, Element))
pub translation_lib_254 : (pt : PivotTable) (et : EdgeTable) (slot : ℕ) (new_prefix : Key) → edge_at et slot ≡ edge new_prefix
    → slot_bounds pt et slot ≡ TranslatePivotPairInternal (pivot_at pt slot) (pivot_at pt (slot + 1)) (slot_prefix pt slot) new_prefix
unfolding slot_bounds bounds_under
translation_lib_254 pt et slot new_prefix e = rw e

module _ (pt : PivotTable) (slot : ℕ) (w : WFPivots pt ≡ true) (h : slot < NumBuckets pt) where
  -- requires ElementIsKey(left)
  -- of a slot, where a table uses it
  pub translation_lib_132 : ElementIsKey (pivot_at pt slot) ≡ true
  translation_lib_132 = (bounded_pivots_37 pt).0 (wf_all_short pt w) slot (omega arith) (wf_keys pt w slot h)

  -- requires right.Element? ==> ElementIsKey(right)
  -- of a slot, where a table uses it
  pub translation_lib_133 : is_key (pivot_at pt (slot + 1)) ≡ true → ElementIsKey (pivot_at pt (slot + 1)) ≡ true
  translation_lib_133 = (bounded_pivots_37 pt).0 (wf_all_short pt w) (slot + 1) (omega arith)

  -- requires IsPrefix(prefix, left.e)
  -- of the slot, where TranslatePivotPair uses it
  pub translation_lib_271 : IsPrefix (slot_prefix pt slot) (key_of (pivot_at pt slot)) ≡ true
  translation_lib_271 = go (pivot_at pt slot) (wf_keys pt w slot h)
    where
      go : (left : Element) → is_key left ≡ true → IsPrefix (PivotLcp left (pivot_at pt (slot + 1))) (key_of left) ≡ true
      go (key l) e = prefix_of_left l (pivot_at pt (slot + 1))
      go max e = absurd (false≢true e)

  -- requires Keyspace.lt(left, right)
  -- of the slot, where TranslatePivotPair uses it
  pub translation_lib_272 : lt (pivot_at pt slot) (pivot_at pt (slot + 1)) ≡ true
  translation_lib_272 = sorted_at pt slot (slot + 1) (wf_sorted pt w) (omega arith) (omega arith)

-- ---- a range

-- where right is max or lacks the prefix
right_lacks : (p q : Key) (r : Element) → Lacks p r → translate_right p q r ≡ ShortestUncommonPrefix q
unfolding translate_right
right_lacks p q (key r) (other e) = rw e
right_lacks p q max is_max = refl

-- function TranslatePivotPairInternal(left: Element, right: Element, prefix: Key, newPrefix: Key) : (p: (Element, Element))
-- its branches: right is max or lacks the prefix, or has it
pub translation_lib_268 : (left right : Element) (p q : Key) → Bytes q
    → ((TranslatePivotPairInternal left right p q).left ≡ TranslateElement p q left)
    × (Lacks p right → (TranslatePivotPairInternal left right p q).right ≡ ShortestUncommonPrefixAt q (length q))
    × ((k : Key) → right ≡ key k → IsPrefix p k ≡ true → (TranslatePivotPairInternal left right p q).right ≡ TranslateElement p q right)
unfolding TranslatePivotPairInternal translate_right
translation_lib_268 left right p q b = (
  refl,
  λ c. right_lacks p q right c ∙ sym (translation_lib_215 q b (length q) (omega arith) (λ i h l. absurd (omega arith))),
  λ k e h. rw (e, h),
)

-- && Keyspace.lt(left', right')
pub translation_lib_274 : (l : Key) (right : Element) (p q : Key) → IsPrefix p l ≡ true → Bytes q → Bytes l → lt (key l) right ≡ true
    → lt (TranslatePivotPairInternal (key l) right p q).left (TranslatePivotPairInternal (key l) right p q).right ≡ true
translation_lib_274 l right p q = pair_rises p q l right

-- && ElementIsKey(left')
-- as at line 247
pub translation_lib_275 : (l : Key) (right : Element) (p q : Key)
    → (ElementIsKey (TranslatePivotPairInternal (key l) right p q).left ≡ leb (length q + (length l - length p)) max_len)
    × ((r d : List ℕ) → ElementIsKey (new_bounds l r p q).left ≡ false → RefusesAt Err (pivot_pair_causes l r p q d) 3 TooLong (pivot_pair_answer l r p q d))
unfolding TranslatePivotPairInternal
translation_lib_275 l right p q = translation_lib_247 p q l

-- && (right'.Element? ==> ElementIsKey(right'))
-- it holds where right is max or lacks the prefix; where right has it, exactly if the produced length is at most 64; past that the call answers 8, as there
pub translation_lib_276 : (l : Key) (right : Element) (p q : Key)
    → (Lacks p right → length q ≤ max_len → short_element (TranslatePivotPairInternal (key l) right p q).right ≡ true)
    × ((k : Key) → right ≡ key k → IsPrefix p k ≡ true
    → short_element (TranslatePivotPairInternal (key l) right p q).right ≡ leb (length q + (length k - length p)) max_len)
    × ((r d : List ℕ) → short_element (new_bounds l r p q).right ≡ false → RefusesAt Err (pivot_pair_causes l r p q d) 3 TooLong (pivot_pair_answer l r p q d))
unfolding TranslatePivotPairInternal translate_right
translation_lib_276 l right p q = (right_short p q right, λ k e h. rw (e, h) (element_short p q k), λ r d. right_refused l r p q d)

-- && AllKeysInBetweenHasPrefix(left', right', newPrefix)
pub translation_lib_277 : (l : Key) (right : Element) (p q : Key) → IsPrefix p l ≡ true → Bytes q
    → AllKeysInBetweenHasPrefix (TranslatePivotPairInternal (key l) right p q).left (TranslatePivotPairInternal (key l) right p q).right q
translation_lib_277 l right p q = pair_shares p q l right

-- ---- parent and child

module _ (parent : PivotTable) (et : EdgeTable) (child : PivotTable) (slot : ℕ) where
  -- predicate ParentKeysInChildRange(parentpivots: PivotTable, parentedges: EdgeTable, childpivots: PivotTable, slot: int)
  -- its two cases: no edge, and an edge, where the bounds are those of TranslatePivotPair
  pub translation_lib_413 : (edge_at et slot ≡ no_edge → ParentKeysInChildRange parent et child slot ≡ ContainsRange child (pivot_at parent slot) (pivot_at parent (slot + 1)))
      × ((q : Key) → edge_at et slot ≡ edge q → ParentKeysInChildRange parent et child slot ≡ ContainsRange child (slot_bounds parent et slot).left (slot_bounds parent et slot).right)
  translation_lib_413 = (parent_child_none parent et child slot, λ q e. unfold ParentKeysInChildRange in refl)

module _ (parent : PivotTable) (et : EdgeTable) (slot : ℕ) (w : WFPivots parent ≡ true) (h : slot < NumBuckets parent) (t : BytesT parent) where
  -- predicate ParentKeysInChildRange(parentpivots: PivotTable, parentedges: EdgeTable, childpivots: PivotTable, slot: int)
  -- in both cases the range rises, as ContainsRange requires
  pub translation_lib_413b : (lt (pivot_at parent slot) (pivot_at parent (slot + 1)) ≡ true)
      × ((q : Key) → Bytes q → edge_at et slot ≡ edge q → lt (slot_bounds parent et slot).left (slot_bounds parent et slot).right ≡ true)
  translation_lib_413b = (translation_lib_272 parent slot w h, λ q b e. rw (translation_lib_254 parent et slot q e) (rises q b (pivot_at parent slot) refl))
    where
      rises : (q : Key) → Bytes q → (left : Element) → pivot_at parent slot ≡ left
          → lt (TranslatePivotPairInternal left (pivot_at parent (slot + 1)) (PivotLcp left (pivot_at parent (slot + 1))) q).left
          (TranslatePivotPairInternal left (pivot_at parent (slot + 1)) (PivotLcp left (pivot_at parent (slot + 1))) q).right ≡ true
      rises q b (key l) e =
          translation_lib_274 l (pivot_at parent (slot + 1)) _ q (prefix_of_left l (pivot_at parent (slot + 1))) b (rw e at (bytes_at parent slot t))
          (rw e at (translation_lib_272 parent slot w h))
      rises q b max e = absurd (false≢true (rw e at (wf_keys parent w slot h)))
