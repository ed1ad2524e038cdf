-- BoundedPivotsLib, lines 159 and 200 to 224: PivotSize, the first table, and the key at a place.
use Rattle.std.specs.Prelude.{Ok, Err}
use mathlib.Core.Path.{◌≡◌, refl, sym, ◌∙◌}
use mathlib.Core.Bool.{true, false, and-false}
use mathlib.Core.List.{List, []}
use mathlib.Core.Option.{none}
use Prim.Native.Nat.{ℕ, ◌*◌, ◌≤◌, ◌<◌}
use borrow.Author.Tests.{le-ltb, lt-ltb, le-leb, eq-eqb, not-false}
use lib.Dec.{ltb}
use lib.ListN.{length}
use Rattle.model.specs.declared.Refusal.TheVariants.{Shape, NoSuchSlot}
use Rattle.model.specs.keys.Key.{Key, max_len}
use Rattle.model.specs.keys.Order.{key, max, is_key}
use Rattle.model.specs.records.Record.{record_size, key_bytes, encode, elements, encode_all}
use Rattle.model.specs.tables.Tables.{PivotTable, min_pivots, max_pivots, pivot_at, WFPivots, InitPivotTable, GetKey}
use Rattle.model.specs.calls.Refusals.{outcome, first, over}
use Rattle.model.specs.calls.KeyCalls.{pivot_key_answer}
use Rattle.model.specs.calls.TableCalls.{pivot_causes, get_key_causes, get_key_answer, get_key_part, init_pivot_table_answer, init_pivot_table_leaves}
use Rattle.model.proofs.keys.Key.{both}
use Rattle.model.proofs.records.Record.{length_encode, reading_key, bytes_record}
use Rattle.model.proofs.tables.Routing.{init_wf, get_key}
use Rattle.model.proofs.calls.Refusals.{none_here, none_after}
use Rattle.contracts.specs.Refuses.{RefusesAt, Refuses}
use Rattle.contracts.specs.BoundedPivots.{PivotSize}
use Rattle.contracts.proofs.Refusing.{refuses_at, too_many, more_refused, call_refuses, pivots_refused}
use Rattle.contracts.proofs.Lent.{accepted, go_on, pivots_read_lem, pivots_lent}

-- function method PivotSize(e: Element) : (n: uint64)
-- of the record of a key, pivot_key answers it; of max it is 0
pub bounded_pivots_159 : (k : Key) → length k ≤ max_len → (pivot_key_answer (encode (key k)) ≡ Ok (PivotSize (key k))) × (PivotSize max ≡ 0)
unfolding outcome
bounded_pivots_159 k s =
    let b : key_bytes (encode (key k)) ≡ k = unfold encode in bytes_record k in
    (rw (eq-eqb (length (encode (key k))) record_size (length_encode (key k) (le-leb (length k) max_len s)), reading_key k s, b), refl)

-- function method InitPivotTable() : (pt: PivotTable)
pub bounded_pivots_200 : (d : List ℕ) → min_pivots * record_size ≤ length d
    → (init_pivot_table_answer d ≡ Ok (length InitPivotTable)) × (init_pivot_table_leaves d ≡ over (encode_all InitPivotTable) d)
unfolding InitPivotTable outcome
bounded_pivots_200 d h = let r = le-ltb (length d) (min_pivots * record_size) h in (rw r, rw r)

-- ensures WFPivots(pt)
pub bounded_pivots_201 : WFPivots InitPivotTable ≡ true
bounded_pivots_201 = init_wf

-- ensures KeyToElement(k) == pt[idx]
pub bounded_pivots_212 : (pt : PivotTable) (i : ℕ) → is_key (pivot_at pt i) ≡ true → key (GetKey pt i) ≡ pivot_at pt i
bounded_pivots_212 pt i h = sym (get_key pt i h)

-- ---- the call, of the pivots p and the place i

module _ (p : List ℕ) (i : ℕ) where
  -- requires |pt| < 0x4000_0000_0000_0000
  pub bounded_pivots_219 : max_pivots < length (elements p) → RefusesAt Err (get_key_causes p i) 0 Shape (get_key_answer p i)
  unfolding pivot_causes
  bounded_pivots_219 h = refuses_at _ _ (get_key_causes p i) 0 _ _ _ refl (too_many p h)

  -- requires WFPivots(pt)
  pub bounded_pivots_220 : WFPivots (elements p) ≡ false → Refuses Err 3 (get_key_answer p i)
  bounded_pivots_220 h = call_refuses _ _ 3 _ (more_refused 3 (pivot_causes false false p) _ (pivots_refused _ _ p h))

  -- where none applies there is a key at the place
  there : first (get_key_causes p i) ≡ none → (ltb i (length (elements p)) ≡ true) × (is_key (pivot_at (elements p) i) ≡ true)
  there h = both _ _ (not-false _ (none_here _ NoSuchSlot [] (none_after (pivot_causes false false p) _ h)))

  -- requires 0 <= idx as int < |pt|
  pub bounded_pivots_221 : ltb i (length (elements p)) ≡ false → RefusesAt Err (get_key_causes p i) 3 NoSuchSlot (get_key_answer p i)
  unfolding pivot_causes
  bounded_pivots_221 h = refuses_at _ _ (get_key_causes p i) 3 _ _ _ refl (rw h)

  -- requires pt[idx].Element?
  pub bounded_pivots_222 : is_key (pivot_at (elements p) i) ≡ false → RefusesAt Err (get_key_causes p i) 3 NoSuchSlot (get_key_answer p i)
  unfolding pivot_causes
  bounded_pivots_222 h = refuses_at _ _ (get_key_causes p i) 3 _ _ _ refl (rw (h, and-false))

-- lent the records of a table
module _ (pt : PivotTable) (i : ℕ) (w : WFPivots pt ≡ true) (m : length pt ≤ max_pivots) (l : i < length pt) (h : is_key (pivot_at pt i) ≡ true) where
  no_cause : first (get_key_causes (encode_all pt) i) ≡ none
  no_cause =
      rw (pivots_read_lem pt w)
      (go_on _ _ (pivot_causes false false (encode_all pt)) _ (pivots_lent pt w false false m refl refl) ∙ (unfold outcome in rw (lt-ltb i (length pt) l, h)))

  -- ensures GetKey(pt, idx as int) == k
  -- the part handed back holds its bytes, and the call beside it answers its length
  pub bounded_pivots_223 : (get_key_part (encode_all pt) i ≡ GetKey pt i) × (get_key_answer (encode_all pt) i ≡ Ok (length (GetKey pt i)))
  bounded_pivots_223 =
      let e = pivots_read_lem pt w in
      (accepted _ _ (get_key_causes (encode_all pt) i) no_cause ∙ rw e, accepted _ _ (get_key_causes (encode_all pt) i) no_cause ∙ rw e)

  -- ensures KeyToElement(k) == pt[idx as int]
  pub bounded_pivots_224 : key (get_key_part (encode_all pt) i) ≡ pivot_at pt i
  bounded_pivots_224 = rw bounded_pivots_223.0 (bounded_pivots_212 pt i h)
