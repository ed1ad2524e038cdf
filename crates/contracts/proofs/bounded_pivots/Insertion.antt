-- BoundedPivotsLib, lines 287 to 289: InsertPivot, by the call that inserts a pivot with its edges.
use Rattle.std.specs.Prelude.{Err}
use mathlib.Core.Path.{◌≡◌, refl, sym, ap, ◌∙◌}
use mathlib.Core.Bool.{Bool, true, false, true≢false}
use mathlib.Core.List.{List, [], ◌∷◌, ◌++◌}
use mathlib.Core.Option.{none}
use Prim.Native.Nat.{ℕ, zero, suc, ◌+◌, ◌-◌, ◌≤◌, ◌<◌}
use native.Mathlib.Omega.{arith}
use borrow.Author.Tests.{not-false}
use lib.ListN.{length, take, drop, length-append, length-drop, get_or-append}
use lib.Seq.{length-take-le, get_or_at, get_or-take}
use Rattle.model.specs.declared.Refusal.TheVariants.{OutOfRange, AlreadyPivot}
use Rattle.model.specs.keys.Key.{Key, too_long}
use Rattle.model.specs.keys.Order.{key, max}
use Rattle.model.specs.records.Record.{elements}
use Rattle.model.specs.tables.Tables.{PivotTable, pivot_at, WFPivots, ContainsRange, PivotInsertable, Route, is_pivot}
use Rattle.model.specs.cuts.Insertion.{InsertPivot}
use Rattle.model.specs.calls.Refusals.{first}
use Rattle.model.specs.calls.TableCalls.{pivot_causes, table_causes, edge_slot_causes}
use Rattle.model.specs.calls.InsertionCalls.{insert_causes, insert_answer}
use Rattle.model.proofs.calls.Refusals.{none_here, none_before, none_after, not_fails}
use Rattle.model.proofs.calls.TableCalls.{table_wf}
use Rattle.model.proofs.tables.Routing.{wf_sorted, wf_count}
use Rattle.model.proofs.tables.Insertable.{insertable_gap}
use Rattle.model.proofs.tables.NewPivot.{Strictly, new_strictly, strictly_route, strictly_insertable}
use Rattle.contracts.specs.Refuses.{RefusesAt, Refuses}
use Rattle.contracts.proofs.Refusing.{refuses_at, refuses_unless, more_refused, call_refuses, table_pivots_refused}

-- a pivot from the place on stands one place further on
further : (k : Key) (pt : PivotTable) (idx i : ℕ) → idx ≤ i → pivot_at (take idx pt ++ (key k ∷ drop idx pt)) (suc i) ≡ pivot_at pt i
further k pt zero i h = refl
further k [] (suc idx) i h = refl
further k (p ∷ pt) (suc idx) zero h = absurd (omega arith)
further k (p ∷ pt) (suc idx) (suc i) h = further k pt idx i (omega arith)

-- function InsertPivot(pt: PivotTable, idx: int, key: Key) : PivotTable
-- insert(pt, KeyToElement(key), idx): the key at place idx, each pivot before it in its place, each other one place further on
pub bounded_pivots_287 : (pt : PivotTable) (idx : ℕ) (k : Key) → idx ≤ length pt
    → (length (InsertPivot pt idx k) ≡ length pt + 1) × (pivot_at (InsertPivot pt idx k) idx ≡ key k)
    × ((i : ℕ) → i < idx → pivot_at (InsertPivot pt idx k) i ≡ pivot_at pt i)
    × ((i : ℕ) → idx ≤ i → pivot_at (InsertPivot pt idx k) (suc i) ≡ pivot_at pt i)
unfolding InsertPivot
bounded_pivots_287 pt idx k h =
    let n = length-take-le idx pt h in (
      rw (length-append, n, length-drop idx pt) (omega arith),
      get_or_at (take idx pt) (key k) (drop idx pt) max idx n,
      λ i l. get_or-append (take idx pt) (key k ∷ drop idx pt) max i (rw n l) ∙ get_or-take idx pt i max l,
      further k pt idx,
    )

-- a key of the range that cannot be inserted behind its slot's first pivot is a pivot
not_insertable : (p e : List ℕ) (k : Key) → PivotInsertable (elements p) (Route (elements p) k + 1) k ≡ false
    → first (edge_slot_causes p e k (ContainsRange (elements p) (key k) (key k))) ≡ none → is_pivot (elements p) k ≡ true
not_insertable p e k h f = go (is_pivot (elements p) k) refl
  where
    wf : WFPivots (elements p) ≡ true
    wf = table_wf false (too_long k) p e (none_before _ _ f)

    contained : ContainsRange (elements p) (key k) (key k) ≡ true
    contained = not-false _ (none_here _ OutOfRange [] (none_after (table_causes false (too_long k) p e) _ f))

    go : (t : Bool) → is_pivot (elements p) k ≡ t → t ≡ true
    go true i = refl
    go false i =
        let s = new_strictly (elements p) k wf contained i in
        absurd (true≢false (sym (strictly_insertable (elements p) k wf (Route (elements p) k) s) ∙ h))

module _ (p e : List ℕ) (k : Key) (dp de : List ℕ) where
  -- requires WFPivots(pt)
  pub bounded_pivots_288 : WFPivots (elements p) ≡ false → Refuses Err 3 (insert_answer p e k dp de)
  bounded_pivots_288 h =
      call_refuses _ _ 3 _ (more_refused 3 _ _ (more_refused 3 (table_causes false (too_long k) p e) _ (table_pivots_refused false (too_long k) p e h)))

  -- requires PivotInsertable(pt, idx, key)
  pub bounded_pivots_289 : PivotInsertable (elements p) (Route (elements p) k + 1) k ≡ false
      → RefusesAt Err (insert_causes p e k dp de) 5 AlreadyPivot (insert_answer p e k dp de)
  unfolding table_causes pivot_causes
  bounded_pivots_289 h = refuses_unless _ _ (insert_causes p e k dp de) 5 _ _ _ refl (not_insertable p e k h)

  -- requires PivotInsertable(pt, idx, key)
  pub bounded_pivots_289c : ContainsRange (elements p) (key k) (key k) ≡ false
      → RefusesAt Err (insert_causes p e k dp de) 4 OutOfRange (insert_answer p e k dp de)
  unfolding table_causes pivot_causes
  bounded_pivots_289c h = refuses_at _ _ (insert_causes p e k dp de) 4 _ _ _ refl (not_fails _ h)

-- requires PivotInsertable(pt, idx, key)
pub bounded_pivots_289b : (pt : PivotTable) (idx : ℕ) (k : Key) → WFPivots pt ≡ true → 0 < idx → idx < length pt → PivotInsertable pt idx k ≡ true
    → idx ≡ Route pt k + 1
bounded_pivots_289b pt idx k w h l i =
    let g = insertable_gap pt idx k (wf_sorted pt w) (wf_count pt w) i in
    let q : idx - 1 + 1 ≡ idx = omega arith in
    let s : Strictly pt (idx - 1) k = record { slot = omega arith; from = g.left h; upto = rw q (g.right l) } in
    sym q ∙ ap (λ (c : ℕ). c + 1) (strictly_route pt k w (idx - 1) s)
