-- Where both cuts at a key are accepted, and it is no pivot of a table that is not full, an insertion has no cause but 10.
use mathlib.Core.Path.{◌≡◌, sym, ◌∙◌}
use mathlib.Core.Bool.{Bool, true, false}
use mathlib.Core.List.{List}
use mathlib.Core.Option.{none, some}
use Prim.Native.Nat.{ℕ, ◌<◌}
use native.Mathlib.Omega.{arith}
use borrow.Author.Tests.{le-ltb, not-false}
use lib.ListN.{length}
use Rattle.model.specs.declared.Refusal.TheVariants.{TooLong}
use Rattle.model.specs.keys.Key.{Key, too_long}
use Rattle.model.specs.keys.Order.{key, same}
use Rattle.model.specs.records.Record.{elements}
use Rattle.model.specs.tables.Tables.{max_pivots, pivot_at, all, short_edge, WFPivots, ContainsRange, Route, is_pivot}
use Rattle.model.specs.cuts.Sides.{inside}
use Rattle.model.specs.calls.Refusals.{outcome, first}
use Rattle.model.specs.calls.TableCalls.{table_causes, edge_slot_causes}
use Rattle.model.specs.calls.CutCalls.{cut_pivots, cut_edges, cut_causes}
use Rattle.model.specs.calls.InsertionCalls.{inserted_pivots, inserted_edges, new_pivot_causes}
use Rattle.model.specs.cuts.TwoOrders.{Dests, accepted, cut}
use Rattle.model.proofs.keys.Key.{both}
use Rattle.model.proofs.keys.Order.{lte_antisym, refuted}
use Rattle.model.proofs.calls.Refusals.{after, none_here, none_before, none_after}
use Rattle.model.proofs.calls.TableCalls.{table_wf}
use Rattle.model.proofs.calls.CutCalls.{cut_table, cut_inside, cut_short}
use Rattle.model.proofs.calls.InsertionCalls.{insert_found, insert_short}
use Rattle.model.proofs.tables.NewPivot.{no_pivot, Strictly, new_strictly}
use Rattle.model.proofs.cuts.Ends.{accepted_none}
use Rattle.model.proofs.cuts.LongInsertion.{inside_contained}
use Rattle.model.proofs.cuts.Insertion.{insert_length}

module _ (p e : List ℕ) (k : Key) where
  -- an accepted cut had none of the causes 1 to 5
  was_found : (left : Bool) (d : Dests) → accepted (cut left k d p e) ≡ true → first (edge_slot_causes p e k (inside left (elements p) k)) ≡ none
  was_found left d a = none_before _ _ (accepted_none (cut_causes left p e k d.for_pivots d.for_edges) (length (cut_pivots left p k)) _ _ a)

  -- and a short edge
  was_short : (left : Bool) (d : Dests) → accepted (cut left k d p e) ≡ true → all short_edge (cut_edges left p e k) ≡ true
  was_short left d a =
      not-false _ (none_here _ TooLong _ (none_after (edge_slot_causes p e k (inside left (elements p) k)) _
      (accepted_none (cut_causes left p e k d.for_pivots d.for_edges) (length (cut_pivots left p k)) _ _ a)))

  module _ (l r : Dests) (a : accepted (cut true k l p e) ≡ true) (b : accepted (cut false k r p e) ≡ true)
      (n : (i : ℕ) → i < length (elements p) → pivot_at (elements p) i ≡ key k → ⊥) (m : length (elements p) < max_pivots) where
    wf : WFPivots (elements p) ≡ true
    wf = table_wf false (too_long k) p e (cut_table true p e k (was_found true l a))

    contained : ContainsRange (elements p) (key k) (key k) ≡ true
    contained = inside_contained true (elements p) k (cut_inside true p e k (was_found true l a))

    new : is_pivot (elements p) k ≡ false
    new = no_pivot k (elements p) (λ i h. refuted (same (pivot_at (elements p) i) (key k)) (λ s. let q = both _ _ s in n i h (lte_antisym _ _ q.0 q.1)))

    slot : Strictly (elements p) (Route (elements p) k) k
    slot = new_strictly (elements p) k wf contained new

    -- so the insertion has none of the causes of the table and the key
    pub takes : first (new_pivot_causes p e k) ≡ none
    unfolding outcome
    takes =
        let f = le-ltb max_pivots (length (inserted_pivots p k)) (omega (arith, m, insert_length (elements p) k (Route (elements p) k) (omega (arith, slot.slot)))) in
        sym (after some none _ (table_causes false (too_long k) p e) _ (cut_table true p e k (was_found true l a)) (rw (contained, new, f)))

    -- and short edges
    pub takes_short : all short_edge (inserted_edges p e k) ≡ true
    takes_short =
        let u = cut_short true p e k (insert_found p e k takes true) in
        let v = cut_short false p e k (insert_found p e k takes false) in
        insert_short p e k takes ∙ rw (← u, ← v, was_short true l a, was_short false r b)
