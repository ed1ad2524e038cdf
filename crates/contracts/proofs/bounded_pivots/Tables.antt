-- BoundedPivotsLib, lines 30 to 71: elements, well-formed tables, and the table of all keys.
use Rattle.std.specs.Prelude.{Ok, Err}
use mathlib.Core.Path.{◌≡◌, refl, sym, ◌∙◌}
use mathlib.Core.Bool.{true, false, ◌&&◌}
use mathlib.Core.List.{List, []}
use Prim.Native.Nat.{ℕ, ◌≤◌, ◌<◌}
use lib.ListN.{length, get_or, length-map}
use Rattle.model.specs.declared.Refusal.TheVariants.{Shape}
use Rattle.model.specs.keys.Key.{Key}
use Rattle.model.specs.keys.Order.{Element, key, max, is_key, lte, same}
use Rattle.model.specs.records.Record.{elements, encode_all}
use Rattle.model.specs.tables.Tables.{PivotTable, max_pivots, pivot_at, last_pivot, short_element, ElementsAreKeys, WFPivots, ContainsAllKeys}
use Rattle.model.specs.calls.TableCalls.{pivot_causes, contains_all_keys_answer}
use Rattle.model.proofs.Lists.{get_d_map, all_inside, inside_all}
use Rattle.model.proofs.keys.Key.{both}
use Rattle.model.proofs.keys.Order.{lte_refl, lte_antisym}
use Rattle.model.proofs.tables.Routing.{wf_of, wf_sorted, wf_keys, wf_all_short, wf_count}
use Rattle.contracts.specs.Refuses.{RefusesAt, Refuses}
use Rattle.contracts.specs.BoundedPivots.{WFLines, ElementIsKey, KeysToElements}
use Rattle.contracts.proofs.Refusing.{refuses_at, too_many, call_refuses, pivots_refused}
use Rattle.contracts.proofs.Lent.{accepted, pivots_read_lem, pivots_lent}

-- predicate ElementIsKey(e: Element)
pub bounded_pivots_30 : (e : Element) → ElementIsKey e ≡ (is_key e && short_element e)
bounded_pivots_30 (key k) = refl
bounded_pivots_30 max = refl

-- predicate ElementsAreKeys(pt: PivotTable)
-- that is, each pivot that is a key has at most 64 bytes
pub bounded_pivots_37 : (pt : PivotTable)
    → (ElementsAreKeys pt ≡ true → (i : ℕ) → i < length pt → is_key (pivot_at pt i) ≡ true → ElementIsKey (pivot_at pt i) ≡ true)
    × (((i : ℕ) → i < length pt → is_key (pivot_at pt i) ≡ true → ElementIsKey (pivot_at pt i) ≡ true) → ElementsAreKeys pt ≡ true)
bounded_pivots_37 pt =
    (λ h i l k. bounded_pivots_30 (pivot_at pt i) ∙ rw k (all_inside short_element pt i max l h), λ f. inside_all short_element pt max (λ i l. short (pivot_at pt i) (f i l)))
  where
    short : (e : Element) → (is_key e ≡ true → ElementIsKey e ≡ true) → short_element e ≡ true
    short (key k) f = f refl
    short max f = refl

-- function KeysToElements(keys: seq<Key>): (elements: seq<Element>)
pub bounded_pivots_47 : (keys : List Key) (i : ℕ) → i < length keys → pivot_at (KeysToElements keys) i ≡ key (get_or keys i [])
unfolding KeysToElements
bounded_pivots_47 keys i l = get_d_map key keys i max [] l

-- ensures |keys| == |elements|
pub bounded_pivots_48 : (keys : List Key) → length keys ≡ length (KeysToElements keys)
unfolding KeysToElements
bounded_pivots_48 keys = sym (length-map keys key)

-- predicate WFPivots(pt: PivotTable)
pub bounded_pivots_53 : (pt : PivotTable) → (WFPivots pt ≡ true → WFLines pt) × (WFLines pt → WFPivots pt ≡ true)
bounded_pivots_53 pt = (
  λ w. record { sorted = wf_sorted pt w; keys = wf_keys pt w; are_keys = wf_all_short pt w; many = wf_count pt w },
  λ l. wf_of pt l.sorted l.are_keys l.many,
)

-- equality by the order is equality
same_is : (a b : Element) → same a b ≡ true → a ≡ b
same_is a b h = let c = both (lte a b) (lte b a) h in lte_antisym a b c.0 c.1

is_same : (a b : Element) → a ≡ b → same a b ≡ true
is_same a b e = rw (e, lte_refl b)

-- predicate ContainsAllKeys(pt: PivotTable)
pub bounded_pivots_61 : (pt : PivotTable)
    → (ContainsAllKeys pt ≡ true → (WFPivots pt ≡ true) × (pivot_at pt 0 ≡ key []) × (last_pivot pt ≡ max))
    × (WFPivots pt ≡ true → pivot_at pt 0 ≡ key [] → last_pivot pt ≡ max → ContainsAllKeys pt ≡ true)
unfolding ContainsAllKeys
bounded_pivots_61 pt = (to, λ w f l. rw (w, is_same (pivot_at pt 0) (key []) f) (is_same (last_pivot pt) max l))
  where
    to : (WFPivots pt && same (pivot_at pt 0) (key []) && same (last_pivot pt) max) ≡ true → (WFPivots pt ≡ true) × (pivot_at pt 0 ≡ key []) × (last_pivot pt ≡ max)
    to h =
        let a = both (WFPivots pt && same (pivot_at pt 0) (key [])) (same (last_pivot pt) max) h in
        let b = both (WFPivots pt) (same (pivot_at pt 0) (key [])) a.0 in
        (b.0, same_is (pivot_at pt 0) (key []) b.1, same_is (last_pivot pt) max a.1)

-- requires WFPivots(pt)
pub bounded_pivots_69 : (p : List ℕ) → WFPivots (elements p) ≡ false → Refuses Err 3 (contains_all_keys_answer p)
bounded_pivots_69 p h = call_refuses _ _ 3 _ (pivots_refused false false p h)

-- requires |pt| < 0x4000_0000_0000_0000
pub bounded_pivots_70 : (p : List ℕ) → max_pivots < length (elements p) → RefusesAt Err (pivot_causes false false p) 0 Shape (contains_all_keys_answer p)
unfolding pivot_causes
bounded_pivots_70 p h = refuses_at _ _ (pivot_causes false false p) 0 _ _ _ refl (too_many p h)

-- ensures b == ContainsAllKeys(pt)
pub bounded_pivots_71 : (pt : PivotTable) → WFPivots pt ≡ true → length pt ≤ max_pivots → contains_all_keys_answer (encode_all pt) ≡ Ok (ContainsAllKeys pt)
bounded_pivots_71 pt w m = rw (pivots_read_lem pt w) (accepted _ _ (pivot_causes false false (encode_all pt)) (pivots_lent pt w false false m refl refl))
