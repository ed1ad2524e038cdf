-- The slot that is asked about: cause 6, its own bounds where it has no edge, and its bounds under its edge.
use Rattle.std.specs.Prelude.{Result, Ok, Err}
use Rattle.model.specs.declared.Refusal.{Refusal}
use mathlib.Core.Path.{◌≡◌, ap, refl}
use mathlib.Core.Bool.{Bool, false}
use mathlib.Core.List.{List, []}
use mathlib.Core.Option.{none}
use Prim.Native.Nat.{ℕ, ◌+◌, ◌/◌, ◌≤◌, ◌<◌}
use native.Mathlib.Omega.{arith}
use borrow.Author.Tests.{lt-ltb, le-ltb, leb-true, le-leb}
use lib.ListN.{length}
use Rattle.model.specs.declared.Refusal.TheVariants.{NoSuchSlot, TooLong}
use Rattle.model.specs.declared.EdgeKind.{EdgeKind}
use Rattle.model.specs.declared.EdgeKind.TheVariants as kinds
use Rattle.model.specs.keys.Key.{max_len}
use Rattle.model.specs.keys.Order.{key}
use Rattle.model.specs.records.Record.{key_bytes, element, edge_of, elements, edges}
use Rattle.model.specs.inner.EdgeKinds.{edge_kind}
use Rattle.model.specs.inner.Places.{record_at}
use Rattle.model.specs.tables.Tables.{pivot_at, edge_at, ContainsRange}
use Rattle.model.specs.translation.ParentChild.{bounds_under, slot_bounds, ParentKeysInChildRange}
use Rattle.model.specs.calls.Refusals.{first, answer}
use Rattle.model.specs.calls.RenamingCalls.{long_bounds}
use Rattle.model.specs.calls.ParentChildCalls.{three_tables_causes}
use Rattle.model.proofs.records.Record.{absent_edge, prefix_edge}
use Rattle.model.proofs.calls.Refusals.{here, later, done}
use Rattle.model.proofs.calls.TableCalls.{length_edges, element_at}
use Rattle.model.proofs.calls.SlotCalls.{record_size_lem, slot_next, slot_rises, slot_left, slot_right, slot_edge_lem, slot_left_short, slot_right_short, slot_right_reads, slot_edge_short}
use Rattle.parent_child.specs.Under.{Slot, new_range, long_range_causes, asked_causes}
use Rattle.parent_child.proofs.Merged.{parent_passed}

-- cause 6 applies to a slot that there isn't
pub no_slot : (p e : List ℕ) (i : ℕ) (v : Bool) → length e / 66 ≤ i → Err NoSuchSlot ≡ answer (asked_causes p e i) v
no_slot p e i v h = here Err _ _ _ NoSuchSlot _ (rw (length_edges e, le-ltb i (length e / 66) h)) refl

-- ---- the slot's records

module _ (p e c : List ℕ) (i : ℕ) (h : first (three_tables_causes p e c) ≡ none) (s : i < length e / 66)
    (a b x : List ℕ) (j : a ≡ record_at p i) (k : b ≡ record_at p (i + 1)) (o : x ≡ record_at e i) (t : EdgeKind) (m : t ≡ edge_kind x) where
  -- and not to this one
  slot_there : {y : Result Bool Refusal} (v : Bool) → y ≡ answer (long_range_causes (slot_bounds (elements p) (edges e) i)) v → y ≡ answer (asked_causes p e i) v
  slot_there v f = later Err _ _ _ NoSuchSlot _ (rw (length_edges e, lt-ltb i (length e / 66) s)) f

  -- its pivots and its edge are those of the records
  left_is : pivot_at (elements p) i ≡ key (key_bytes a)
  left_is = rw j (slot_left false false p e (parent_passed p e c h) i s)

  right_is : pivot_at (elements p) (i + 1) ≡ element b
  right_is = rw k (slot_right false false p e (parent_passed p e c h) i s)

  edge_is : edge_at (edges e) i ≡ edge_of x
  edge_is = rw o (slot_edge_lem false false p e (parent_passed p e c h) i s)

  -- without an edge the bounds are the slot's own
  module _ (u : t ≡ kinds.Absent) where
    own : slot_bounds (elements p) (edges e) i ≡ record { left = pivot_at (elements p) i; right = pivot_at (elements p) (i + 1) }
    unfolding slot_bounds bounds_under
    own = rw (edge_is, absent_edge x t m u)

    -- they are short
    own_short : long_bounds (slot_bounds (elements p) (edges e) i) ≡ false
    own_short =
        let l = le-leb (length (key_bytes a)) max_len (rw j (slot_left_short false false p e (parent_passed p e c h) i s)) in
        rw (own, left_is, l, slot_right_short false false p e (parent_passed p e c h) i s)

    -- the range is that between the records
    own_range : ParentKeysInChildRange (elements p) (edges e) (elements c) i ≡ ContainsRange (elements c) (element a) (element b)
    unfolding ParentKeysInChildRange
    own_range =
        let n = slot_next false false p e (parent_passed p e c h) i s in
        rw (own, element_at p i (omega arith), right_is, j)

    -- so what the child holds of it is the answer
    pub own_told : (y : Bool) → y ≡ ContainsRange (elements c) (element a) (element b)
        → Ok y ≡ answer (asked_causes p e i) (ParentKeysInChildRange (elements p) (edges e) (elements c) i)
    own_told y f = rw own_range (slot_there (ContainsRange (elements c) (element a) (element b)) (later Err _ _ _ TooLong [] own_short (done Err _ _ (ap Ok f))))

  -- with one they are those under it
  module _ (n : ℕ) (u : t ≡ kinds.Prefix n) where
    under : slot_bounds (elements p) (edges e) i ≡ new_range a b x
    unfolding slot_bounds new_range
    under = rw (left_is, right_is, edge_is, prefix_edge x t m n u)

    -- the range is that between them
    under_range : ParentKeysInChildRange (elements p) (edges e) (elements c) i ≡ ContainsRange (elements c) (new_range a b x).left (new_range a b x).right
    unfolding ParentKeysInChildRange
    under_range = rw under

    -- so what the child holds of it is the answer
    pub under_told : (y : Result Bool Refusal)
        → y ≡ answer (long_range_causes (new_range a b x)) (ContainsRange (elements c) (new_range a b x).left (new_range a b x).right)
        → y ≡ answer (asked_causes p e i) (ParentKeysInChildRange (elements p) (edges e) (elements c) i)
    under_told y f = rw under_range (slot_there (ContainsRange (elements c) (new_range a b x).left (new_range a b x).right) (rw under f))

    -- and the slot's records are as a change of prefix asks
    pub slot_records : Slot a b x
    slot_records =
        let g = parent_passed p e c h in
        let y = slot_edge_short false false p e g i s in
        record {
          left = rw j (slot_left_short false false p e g i s);
          size = rw k (record_size_lem p (i + 1) (slot_next false false p e g i s));
          right = rw k (slot_right_reads false false p e g i s);
          edge = leb-true (length (key_bytes x)) max_len (rw (← o, prefix_edge x t m n u) at y);
          rises = rw (left_is, right_is) at (slot_rises false false p e g i s);
        }
