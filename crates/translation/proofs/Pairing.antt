-- The pair of a key's slot, by the records of its pivots and its edge.
use Rattle.std.specs.Prelude.{Result, Ok, Err}
use mathlib.Core.Path.{◌≡◌, ap}
use mathlib.Core.Bool.{true, false}
use mathlib.Core.List.{List, [], append-nil}
use mathlib.Core.Option.{Option, none, some}
use Prim.Native.Nat.{ℕ, ◌+◌, ◌≤◌, ◌<◌}
use native.Mathlib.Omega.{arith}
use borrow.Author.Tests.{leb-true}
use lib.ListN.{length, take, length-take}
use Rattle.model.specs.declared.Refusal.{Refusal}
use Rattle.model.specs.declared.EdgeKind.{EdgeKind}
use Rattle.model.specs.declared.EdgeKind.TheVariants as kinds
use Rattle.model.specs.keys.Key.{max_len}
use Rattle.model.specs.keys.Order.{key}
use Rattle.model.specs.records.Record.{key_bytes, element, edge_of, elements, edges}
use Rattle.model.specs.inner.EdgeKinds.{edge_kind}
use Rattle.model.specs.inner.Places.{record_at}
use Rattle.model.specs.inner.Written.{clipped}
use Rattle.model.specs.ranges.RangePrefix.{PivotLcp}
use Rattle.model.specs.tables.Tables.{max_pivots, short_edge, CutoffForRight}
use Rattle.model.specs.translation.PrefixSet.{PrefixSet, pair}
use Rattle.model.specs.translation.PairState.{PairState, state_with, state_of}
use Rattle.model.specs.translation.PairRecord.{flag}
use Rattle.pairs.specs.declared.PrefixSet as code
use Rattle.pairs.specs.State.{state, told_there}
use Rattle.model.specs.translation.Translation.{edge_pair, Translate}
use Rattle.model.specs.calls.Refusals.{Cause, outcome, first, answer}
use Rattle.model.specs.calls.PairCalls.{there_number}
use Rattle.model.specs.calls.TranslationCalls.{translate_causes, translate_answer, translate_pair}
use Rattle.model.proofs.Lists.{clipped_all}
use Rattle.model.proofs.keys.Key.{prefix_is_take}
use Rattle.model.proofs.records.Record.{absent_edge, prefix_edge}
use Rattle.model.proofs.ranges.RangePrefix.{prefix_of_left}
use Rattle.model.proofs.calls.Refusals.{passed, accepted, value_is, handed_on-first}
use Rattle.model.proofs.calls.CutCalls.{cut_left_key, cut_right_element, cut_old_edge, cut_left_short, cut_edge_short, cut_slot_small}
use Rattle.translation.specs.Translated.{slot_pair}

-- ---- the pair of slot c

module _ (p e : List ℕ) (c : ℕ) (a : List ℕ) (t : EdgeKind) (g : a ≡ record_at e c) (m : t ≡ edge_kind a) where
  -- without an edge it is absent
  module _ (u : t ≡ kinds.Absent) where
    absent_is : slot_pair p e c ≡ none
    unfolding edge_pair
    absent_is = rw (← g, absent_edge a t m u)

    pub absent_pair : (z : PairState) → z ≡ state_of none → z ≡ state_of (slot_pair p e c)
    absent_pair z h = rw absent_is h

  -- with one it is the prefix of the slot's range and the edge
  module _ (f : ℕ) (u : t ≡ kinds.Prefix f) where
    there_is : slot_pair p e c ≡ pair (PivotLcp (key (key_bytes (record_at p c))) (element (record_at p (c + 1)))) (key_bytes a)
    unfolding edge_pair
    there_is = rw (← g, prefix_edge a t m f u)

    module _ (b x s q : List ℕ) (n : ℕ) (j : b ≡ record_at p c) (o : x ≡ key_bytes b) (l : s ≡ record_at p (c + 1))
        (r : n ≡ length (PivotLcp (key x) (element s))) (w : q ≡ key_bytes a) where
      prefix_is : take n x ≡ PivotLcp (key (key_bytes (record_at p c))) (element (record_at p (c + 1)))
      prefix_is = rw (r, ← j, ← l, ← o) (prefix_is_take _ x (prefix_of_left x (element s)))

      pub there_pair : (z : PairState) → length (key_bytes (record_at p c)) ≤ max_len → short_edge (edge_of (record_at e c)) ≡ true
          → z ≡ state_of (pair (clipped (take n x)) (clipped q)) → z ≡ state_of (slot_pair p e c)
      there_pair z y v h =
          let short : length x ≤ max_len = rw (o, j) y in
          let d : length (take n x) ≤ max_len = omega (arith, length-take n x) in
          let i : length q ≤ max_len = rw w (leb-true (length (key_bytes a)) max_len (rw (← g, prefix_edge a t m f u) at v)) in
          rw there_is (rw (clipped_all (take n x) d, clipped_all q i, prefix_is, w) at h)

-- the answer tells whether the pair is there
told_is : (x : code.PrefixSet) (o : Option PrefixSet) → state x ≡ state_of o → told_there (Ok x) ≡ Ok (there_number o)
unfolding state_of state_with there_number
told_is x none h = ap (λ (s : PairState). Ok (flag s.there)) h
told_is x (some a) h = ap (λ (s : PairState). Ok (flag s.there)) h

-- ---- the slot of a key

-- the refusal of a call that answers a slot is handed on
module _ (cs : List Cause) (n : ℕ) (s : Result ℕ Refusal) (e : s ≡ answer cs n) where
  pub slot_refused : {A : Type 0} (f : Refusal → A) (v x : A) (r : Refusal) → s ≡ Err r → x ≡ f r → x ≡ outcome f cs v
  slot_refused f v x r h q = rw append-nil at (handed_on-first cs n s e f v x [] r h q)

module _ (p e k : List ℕ) (s : Result ℕ Refusal) (c : ℕ) (h : s ≡ answer (translate_causes p e k) (CutoffForRight (elements p) k)) (f : s ≡ Ok c) where
  ok : first (translate_causes p e k) ≡ none
  ok = accepted (translate_causes p e k) (CutoffForRight (elements p) k) s h c f

  at : c ≡ CutoffForRight (elements p) k
  at = value_is (translate_causes p e k) (CutoffForRight (elements p) k) s h c f

  -- its number is small
  pub slot_small : c < max_pivots
  slot_small = omega (arith, at, cut_slot_small false p e k ok)

  -- its left pivot and its edge have at most 64 bytes
  pub slot_left_short : length (key_bytes (record_at p c)) ≤ max_len
  slot_left_short = rw at (cut_left_short false p e k ok)

  pub slot_edge_short : short_edge (edge_of (record_at e c)) ≡ true
  slot_edge_short = rw at (cut_edge_short false p e k ok)

  -- and its pair is the key's
  slot_translates : slot_pair p e c ≡ Translate (elements p) (edges e) k
  unfolding Translate CutoffForRight
  slot_translates = rw (at, cut_left_key false p e k ok, cut_right_element false p e k ok, cut_old_edge false p e k ok)

  pub translate_answer_lem : (x : code.PrefixSet) → state x ≡ state_of (slot_pair p e c) → told_there (Ok x) ≡ translate_answer p e k
  translate_answer_lem x y = passed Err _ (told_there (Ok x)) (translate_causes p e k) ok (rw slot_translates at (told_is x _ y))

  pub translate_pair_lem : (z : PairState) → z ≡ state_of (slot_pair p e c) → z ≡ translate_pair p e k
  translate_pair_lem z y = passed (λ (_ : Refusal). state_of none) _ z (translate_causes p e k) ok (rw slot_translates at y)
