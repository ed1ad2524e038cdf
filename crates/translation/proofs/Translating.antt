-- The translation of a key is a change of prefix in its slot, with only the causes 8 and 10 left.
use Rattle.std.specs.Prelude.{Result}
use mathlib.Core.Path.{◌≡◌, refl, sym, ◌∙◌}
use mathlib.Core.Bool.{true, false}
use mathlib.Core.List.{List}
use mathlib.Core.Option.{none}
use Prim.Native.Nat.{ℕ, ◌+◌, ◌≤◌}
use native.Mathlib.Omega.{arith}
use borrow.Author.Tests.{leb-true}
use lib.ListN.{length, take, get_or}
use mir.Val.{Fits}
use mir.Syntax.{w8}
use Rattle.model.specs.declared.Refusal.{Refusal}
use Rattle.model.specs.declared.EdgeKind.{EdgeKind}
use Rattle.model.specs.declared.EdgeKind.TheVariants as kinds
use Rattle.model.specs.keys.Key.{max_len, IsPrefix, change_prefix}
use Rattle.model.specs.keys.Order.{key}
use Rattle.model.specs.records.Record.{edge, key_bytes, element, edge_of, elements}
use Rattle.model.specs.inner.EdgeKinds.{edge_kind}
use Rattle.model.specs.inner.Places.{record_at}
use Rattle.model.specs.ranges.RangePrefix.{PivotLcp}
use Rattle.model.specs.tables.Tables.{pivot_at, BoundedKey, CutoffForRight}
use Rattle.model.specs.translation.Translation.{edge_pair, Translate, TranslateKey}
use Rattle.model.specs.translation.PrefixSet.{ApplyPrefixSet}
use Rattle.model.specs.calls.Refusals.{outcome, first, answer, leaves}
use Rattle.model.specs.calls.KeyCalls.{size_causes, change_prefix_causes, change_prefix_answer, change_prefix_leaves}
use Rattle.model.specs.calls.TableCalls.{edge_slot_causes}
use Rattle.model.proofs.calls.KeyCalls.{only_sizes}
use Rattle.model.proofs.keys.Key.{prefix_is_take, bytes_of}
use Rattle.model.proofs.records.Record.{absent_edge, prefix_edge}
use Rattle.model.proofs.ranges.RangePrefix.{prefix_of_left}
use Rattle.model.proofs.calls.CutCalls.{cut_key, cut_left_key, cut_right_element, cut_old_edge, cut_edge_short, cut_begins}
use Rattle.translation.specs.Translated.{translated}

module _ (p e k : List ℕ) (c : ℕ) (h : first (edge_slot_causes p e k (BoundedKey (elements p) k)) ≡ none) (i : c ≡ CutoffForRight (elements p) k) where
  -- the key is translated by the edge of its slot
  by_edge : translated p e k ≡ ApplyPrefixSet (edge_pair (PivotLcp (pivot_at (elements p) c) (pivot_at (elements p) (c + 1))) (edge_of (record_at e c))) k
  unfolding TranslateKey Translate CutoffForRight
  by_edge = rw (i, ← cut_old_edge false p e k h)

  module _ (a : List ℕ) (t : EdgeKind) (g : a ≡ record_at e c) (m : t ≡ edge_kind a) where
    -- without an edge it is the key itself
    module _ (d : List ℕ) (u : t ≡ kinds.Absent) where
      kept : translated p e k ≡ change_prefix (take 0 k) (take 0 k) k
      unfolding edge_pair ApplyPrefixSet change_prefix
      kept = by_edge ∙ rw (← g, absent_edge a t m u)

      kept_causes : {A : Type 0} (f : Refusal → A) (v : A)
          → outcome f (change_prefix_causes k (take 0 k) (take 0 k) d) v ≡ outcome f (size_causes (translated p e k) d) v
      unfolding IsPrefix
      kept_causes f v = rw kept (only_sizes f v k (take 0 k) (take 0 k) d (cut_key false p e k h) (omega arith) refl)

      pub kept_answer : (z : Result ℕ Refusal) → z ≡ change_prefix_answer k (take 0 k) (take 0 k) d
          → z ≡ answer (size_causes (translated p e k) d) (length (translated p e k))
      kept_answer z y = y ∙ kept_causes _ _ ∙ rw kept

      pub kept_written : (z : List ℕ) → z ≡ change_prefix_leaves k (take 0 k) (take 0 k) d
          → z ≡ leaves (size_causes (translated p e k) d) (translated p e k) d
      kept_written z y = y ∙ kept_causes _ _ ∙ rw kept

    -- with one the prefix of its range is changed
    module _ (b x s q : List ℕ) (n f : ℕ) (d : List ℕ) (u : t ≡ kinds.Prefix f) (j : b ≡ record_at p c) (o : x ≡ key_bytes b) (l : s ≡ record_at p (c + 1))
        (r : n ≡ length (PivotLcp (key x) (element s))) (w : q ≡ key_bytes a) (v : (i : ℕ) → Fits w8 (get_or k i 0)) where
      first_pivot : pivot_at (elements p) c ≡ key x
      first_pivot = rw (o, j, i) (cut_left_key false p e k h)

      second_pivot : pivot_at (elements p) (c + 1) ≡ element s
      second_pivot = rw (l, i) (cut_right_element false p e k h)

      prefix_there : PivotLcp (pivot_at (elements p) c) (pivot_at (elements p) (c + 1)) ≡ take n x
      prefix_there = rw (first_pivot, second_pivot, r) (sym (prefix_is_take _ x (prefix_of_left x (element s))))

      prefix_begins : IsPrefix (take n x) k ≡ true
      prefix_begins = rw (← prefix_there, i) (cut_begins false p e k h refl (bytes_of k v))

      edge_is : edge_of (record_at e c) ≡ edge q
      edge_is = rw (← g, w) (prefix_edge a t m f u)

      edge_short : length q ≤ max_len
      edge_short = leb-true (length q) max_len (rw (← i, edge_is) at (cut_edge_short false p e k h))

      changed : translated p e k ≡ change_prefix (take n x) q k
      unfolding edge_pair ApplyPrefixSet
      changed = by_edge ∙ rw (edge_is, prefix_there)

      changed_causes_lem : {A : Type 0} (f : Refusal → A) (v : A)
          → outcome f (change_prefix_causes k (take n x) q d) v ≡ outcome f (size_causes (translated p e k) d) v
      changed_causes_lem f v = rw changed (only_sizes f v k (take n x) q d (cut_key false p e k h) edge_short prefix_begins)

      pub changed_answer : (z : Result ℕ Refusal) → z ≡ change_prefix_answer k (take n x) q d
          → z ≡ answer (size_causes (translated p e k) d) (length (translated p e k))
      changed_answer z y = y ∙ changed_causes_lem _ _ ∙ rw changed

      pub changed_written : (z : List ℕ) → z ≡ change_prefix_leaves k (take n x) q d
          → z ≡ leaves (size_causes (translated p e k) d) (translated p e k) d
      changed_written z y = y ∙ changed_causes_lem _ _ ∙ rw changed
