-- BoundedPivotsLib, lines 79 to 145 and 237 to 250: ContainsRange, bounded keys, PivotInsertable.
use Rattle.std.specs.Prelude.{Ok, Err}
use mathlib.Core.Path.{◌≡◌, refl, ◌∙◌}
use mathlib.Core.Bool.{true, false, ◌&&◌, ◌||◌}
use mathlib.Core.List.{List, [], ◌∷◌, map}
use mathlib.Core.Option.{none}
use Prim.Native.Nat.{ℕ, ◌-◌, ◌≤◌, ◌<◌}
use native.Mathlib.Omega.{arith}
use borrow.Author.Tests.{lt-ltb}
use lib.ListN.{length, get_or, length-map}
use Rattle.model.specs.declared.Refusal.TheVariants.{Shape, Malformed, NotBelow}
use Rattle.model.specs.keys.Key.{Key, max_len, too_long}
use Rattle.model.specs.keys.Order.{Element, key, max, lte, lt}
use Rattle.model.specs.records.Record.{element, elements, encode, encode_all}
use Rattle.model.specs.tables.Tables.{PivotTable, max_pivots, pivot_at, last_pivot, all, short_element, IsStrictlySorted, WFPivots}
use Rattle.model.specs.tables.Tables.{ContainsRange, BoundedKey, ValidLeftCutOffKey, PivotInsertable}
use Rattle.model.specs.calls.Refusals.{outcome, first}
use Rattle.model.specs.calls.KeyCalls.{not_record, not_element}
use Rattle.model.specs.calls.TableCalls.{pivot_causes, key_causes, contains_range_causes, contains_range_answer, bounded_key_answer, valid_left_cut_off_key_answer, pivot_insertable_answer}
use Rattle.model.proofs.Lists.{all_inside, inside_all, get_d_map}
use Rattle.model.proofs.keys.Key.{both}
use Rattle.model.proofs.keys.Order.{lte_trans, lte_trans_lt}
use Rattle.model.proofs.tables.Places.{sorted_lte}
use Rattle.model.proofs.calls.Refusals.{or_left, or_right, not_fails}
use Rattle.model.proofs.calls.TableCalls.{not_too_long}
use Rattle.contracts.specs.Refuses.{RefusesAt, Refuses}
use Rattle.contracts.specs.BoundedPivots.{ElementIsKey, KeysToElements, BoundedKeySeq, BoundedSortedKeySeq}
use Rattle.contracts.proofs.Tests.{same_tests}
use Rattle.contracts.proofs.Refusing.{refuses_at, not_key_long, too_many, more_refused, call_refuses, pivots_refused}
use Rattle.contracts.proofs.Lent.{accepted, go_on, element_lent, pivots_read_lem, pivots_lent}

-- ---- ContainsRange, of the pivots p, the left key l and the right record r

module _ (p : List ℕ) (l : Key) (r : List ℕ) where
  -- requires WFPivots(pt)
  pub bounded_pivots_89 : WFPivots (elements p) ≡ false → Refuses Err 3 (contains_range_answer p l r)
  bounded_pivots_89 h = call_refuses _ _ 3 _ (more_refused 3 (pivot_causes (not_record r) (too_long l || not_element r) p) _ (pivots_refused _ _ p h))

  -- requires |pt| < 0x4000_0000_0000_0000
  pub bounded_pivots_90 : max_pivots < length (elements p) → RefusesAt Err (contains_range_causes p l r) 0 Shape (contains_range_answer p l r)
  unfolding pivot_causes
  bounded_pivots_90 h = refuses_at _ _ (contains_range_causes p l r) 0 _ _ _ refl (or_right (not_record r) _ (too_many p h))

  -- requires ElementIsKey(left)
  pub bounded_pivots_91 : ElementIsKey (key l) ≡ false → RefusesAt Err (contains_range_causes p l r) 1 Malformed (contains_range_answer p l r)
  unfolding pivot_causes
  bounded_pivots_91 h = refuses_at _ _ (contains_range_causes p l r) 1 _ _ _ refl (or_left (too_long l || not_element r) _ (or_left (too_long l) _ (not_key_long l h)))

  -- requires Keyspace.lt(left, right)
  pub bounded_pivots_92 : lt (key l) (element r) ≡ false → RefusesAt Err (contains_range_causes p l r) 3 NotBelow (contains_range_answer p l r)
  unfolding pivot_causes
  bounded_pivots_92 h = refuses_at _ _ (contains_range_causes p l r) 3 _ _ _ refl (not_fails _ h)

-- ensures b == ContainsRange(pt, left, right)
pub bounded_pivots_93 : (pt : PivotTable) (l : Key) (r : Element) → WFPivots pt ≡ true → length pt ≤ max_pivots → length l ≤ max_len → short_element r ≡ true
    → lt (key l) r ≡ true → contains_range_answer (encode_all pt) l (encode r) ≡ Ok (ContainsRange pt (key l) r)
bounded_pivots_93 pt l r w m s t h =
    let e = element_lent r t in
    rw (pivots_read_lem pt w, e.stands)
    (go_on _ _ (pivot_causes (not_record (encode r)) (too_long l || not_element (encode r)) (encode_all pt)) _
    (pivots_lent pt w _ _ m e.one (rw (not_too_long l s) e.right))
    ∙ (unfold outcome in rw h))

-- ---- BoundedKeySeq, BoundedSortedKeySeq

-- predicate BoundedKeySeq(pt: PivotTable, keys: seq<Key>)
pub bounded_pivots_108 : (pt : PivotTable) (keys : List Key)
    → (BoundedKeySeq pt keys ≡ true → (i : ℕ) → i < length keys → BoundedKey pt (get_or keys i []) ≡ true)
    × (((i : ℕ) → i < length keys → BoundedKey pt (get_or keys i []) ≡ true) → BoundedKeySeq pt keys ≡ true)
unfolding BoundedKeySeq
bounded_pivots_108 pt keys = (λ h i l. all_inside (BoundedKey pt) keys i [] l h, inside_all (BoundedKey pt) keys [])

-- of keys that rise strictly, those between two bounded ones are bounded
between_bounded : (pt : PivotTable) (keys : List Key) (i n : ℕ) → IsStrictlySorted (KeysToElements keys) ≡ true → i ≤ n → n < length keys
    → BoundedKey pt (get_or keys 0 []) ≡ true → BoundedKey pt (get_or keys n []) ≡ true → BoundedKey pt (get_or keys i []) ≡ true
unfolding BoundedKey KeysToElements
between_bounded pt keys i n s l h a b =
    let at : (j : ℕ) → j < length keys → pivot_at (map key keys) j ≡ key (get_or keys j []) = λ j e. get_d_map key keys j max [] e in
    let c = length-map keys key in
    let f = rw (at 0 (omega arith), at i (omega arith)) at (sorted_lte (map key keys) 0 i s (omega arith) (omega arith)) in
    let g = rw (at i (omega arith), at n h) at (sorted_lte (map key keys) i n s l (omega arith)) in
    let u = both (lte (pivot_at pt 0) (key (get_or keys 0 []))) (lt (key (get_or keys 0 [])) (last_pivot pt)) a in
    let v = both (lte (pivot_at pt 0) (key (get_or keys n []))) (lt (key (get_or keys n [])) (last_pivot pt)) b in
    rw (lte_trans (pivot_at pt 0) (key (get_or keys 0 [])) (key (get_or keys i [])) u.0 f)
    (lte_trans_lt (key (get_or keys i [])) (key (get_or keys n [])) (last_pivot pt) g v.1)

-- predicate BoundedSortedKeySeq(pt: PivotTable, keys: seq<Key>)
-- of keys that rise strictly it says that each is bounded
pub bounded_pivots_114 : (pt : PivotTable) (keys : List Key) → IsStrictlySorted (KeysToElements keys) ≡ true → BoundedSortedKeySeq pt keys ≡ BoundedKeySeq pt keys
unfolding BoundedKeySeq BoundedSortedKeySeq all
bounded_pivots_114 pt [] s = refl
bounded_pivots_114 pt (k ∷ ks) s =
    let keys = k ∷ ks in
    let n = length keys - 1 in
    rw (lt-ltb 0 (length keys) (omega arith))
    (same_tests (BoundedKey pt k && BoundedKey pt (get_or keys n [])) (all (BoundedKey pt) keys)
    (λ h. let c = both (BoundedKey pt k) (BoundedKey pt (get_or keys n [])) h in
    inside_all (BoundedKey pt) keys [] (λ i l. between_bounded pt keys i n s (omega arith) (omega arith) c.0 c.1))
    (λ h. rw (all_inside (BoundedKey pt) keys 0 [] (omega arith) h) (all_inside (BoundedKey pt) keys n [] (omega arith) h)))

-- ---- BoundedKey, ValidLeftCutOffKey and PivotInsertable, of the pivots p and the key k

module _ (p : List ℕ) (k : Key) where
  -- requires |pt| < 0x4000_0000_0000_0000
  pub bounded_pivots_132 : max_pivots < length (elements p) → RefusesAt Err (key_causes p k) 0 Shape (bounded_key_answer p k)
  unfolding pivot_causes
  bounded_pivots_132 h = refuses_at _ _ (key_causes p k) 0 _ _ _ refl (too_many p h)

  -- requires WFPivots(pt)
  pub bounded_pivots_133 : WFPivots (elements p) ≡ false → Refuses Err 3 (bounded_key_answer p k)
  bounded_pivots_133 h = call_refuses _ _ 3 _ (pivots_refused _ _ p h)

  -- requires |pt| < 0x4000_0000_0000_0000
  pub bounded_pivots_143 : max_pivots < length (elements p) → RefusesAt Err (key_causes p k) 0 Shape (valid_left_cut_off_key_answer p k)
  unfolding pivot_causes
  bounded_pivots_143 h = refuses_at _ _ (key_causes p k) 0 _ _ _ refl (too_many p h)

  -- requires WFPivots(pt)
  pub bounded_pivots_144 : WFPivots (elements p) ≡ false → Refuses Err 3 (valid_left_cut_off_key_answer p k)
  bounded_pivots_144 h = call_refuses _ _ 3 _ (pivots_refused _ _ p h)

  -- requires WFPivots(pt)
  pub bounded_pivots_248 : (i : ℕ) → WFPivots (elements p) ≡ false → Refuses Err 3 (pivot_insertable_answer p i k)
  bounded_pivots_248 i h = call_refuses _ _ 3 _ (pivots_refused _ _ p h)

  -- requires |pt| < 0x4000_0000_0000_0000
  pub bounded_pivots_249 : (i : ℕ) → max_pivots < length (elements p) → RefusesAt Err (key_causes p k) 0 Shape (pivot_insertable_answer p i k)
  unfolding pivot_causes
  bounded_pivots_249 i h = refuses_at _ _ (key_causes p k) 0 _ _ _ refl (too_many p h)

-- lent the records of a table, and a key
module _ (pt : PivotTable) (k : Key) (w : WFPivots pt ≡ true) (m : length pt ≤ max_pivots) (s : length k ≤ max_len) where
  no_cause : first (key_causes (encode_all pt) k) ≡ none
  no_cause = pivots_lent pt w false (too_long k) m refl (not_too_long k s)

  -- ensures b == BoundedKey(pt, key)
  pub bounded_pivots_134 : bounded_key_answer (encode_all pt) k ≡ Ok (BoundedKey pt k)
  bounded_pivots_134 = rw (pivots_read_lem pt w) (accepted _ _ (key_causes (encode_all pt) k) no_cause)

  -- ensures b == ValidLeftCutOffKey(pt, key)
  pub bounded_pivots_145 : valid_left_cut_off_key_answer (encode_all pt) k ≡ Ok (ValidLeftCutOffKey pt k)
  bounded_pivots_145 = rw (pivots_read_lem pt w) (accepted _ _ (key_causes (encode_all pt) k) no_cause)

  -- ensures b == PivotInsertable(pt, idx as int, key)
  pub bounded_pivots_250 : (i : ℕ) → pivot_insertable_answer (encode_all pt) i k ≡ Ok (PivotInsertable pt i k)
  bounded_pivots_250 i = rw (pivots_read_lem pt w) (accepted _ _ (key_causes (encode_all pt) k) no_cause)
