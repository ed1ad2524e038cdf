-- What a cut in a slot answers and writes.
use Rattle.std.specs.Prelude.{Result, Ok, Err}
use mathlib.Core.Path.{◌≡◌, refl, sym, ◌∙◌}
use mathlib.Core.Bool.{Bool, true, false}
use mathlib.Core.List.{List, ◌++◌, append-nil}
use mathlib.Core.Option.{none}
use Prim.Native.Nat.{ℕ, ◌+◌, ◌*◌, ◌-◌}
use native.Mathlib.Omega.{arith}
use mir.Syntax.{w8}
use mir.Val.{Fits}
use lib.ListN.{length, take, drop, get_or}
use Rattle.model.specs.declared.Refusal.{Refusal}
use Rattle.model.specs.records.Record.{elements, record_of, encode_edge, encode_all, encode_edges}
use Rattle.model.specs.inner.Written.{clipped}
use Rattle.model.specs.tables.Tables.{all, short_edge}
use Rattle.model.specs.cuts.Sides.{inside, cutoff}
use Rattle.model.specs.calls.Refusals.{outcome, first, answer}
use Rattle.model.specs.calls.CutCalls.{cut_pivots, cut_edges, write_causes}
use Rattle.model.specs.calls.TableCalls.{edge_slot_causes}
use Rattle.model.proofs.Lists.{rest, over_all, clipped_all}
use Rattle.model.proofs.calls.Refusals.{refused_first, refused, accepted, passed}
use Rattle.model.proofs.records.Record.{length-encode_edge}
use Rattle.model.proofs.keys.Key.{bytes_of}
use Rattle.model.proofs.calls.CutCalls.{cut_key, cut_short, cut_pivots_bytes, cut_edges_bytes}
use Rattle.model.proofs.calls.CutPlaces.{next_place}
use Rattle.slot_edges.specs.Slot.{slot_edge_answer, slot_edge_leaves, edge_cut, long_edge_causes}
use Rattle.slot_edges.proofs.Edges.{edge_taken}
use Rattle.slot_edges.proofs.Slots.{slot_edge_answer_lem, slot_edge_left}

module _ (left : Bool) (p e k : List ℕ) (c : ℕ) (h : first (edge_slot_causes p e k (inside left (elements p) k)) ≡ none)
    (f : c ≡ cutoff left (elements p) k) where
  -- ---- the bytes of the cut, by the side

  module _ (v : List ℕ) (t : (i : ℕ) → Fits w8 (get_or p i 0)) (u : v ≡ record_of (length k) (clipped k)) where
    pivot_is : v ≡ record_of (length k) k
    pivot_is = rw (clipped_all k (cut_key left p e k h)) at u

    pub left_pivots : left ≡ true → encode_all (cut_pivots left p k) ≡ take (c * 66 + 66) p ++ (v ++ take 0 k)
    left_pivots l = cut_pivots_bytes left p e k h (bytes_of p t) ∙ rw (f, l, pivot_is, next_place, append-nil)

    pub right_pivots : left ≡ false → encode_all (cut_pivots left p k) ≡ take 0 k ++ (v ++ take (length p - (c * 66 + 66)) (drop (c * 66 + 66) p))
    right_pivots l = cut_pivots_bytes left p e k h (bytes_of p t) ∙ rw (f, l, pivot_is, next_place, rest)

  module _ (made : List ℕ) (t : (i : ℕ) → Fits w8 (get_or e i 0)) (u : made ≡ encode_edge (edge_cut left p e k)) where
    pub left_edges : left ≡ true → encode_edges (cut_edges left p e k) ≡ take (c * 66) e ++ (made ++ take 0 k)
    unfolding edge_cut
    left_edges l = cut_edges_bytes left p e k h (bytes_of e t) ∙ rw (f, u, l, append-nil)

    pub right_edges : left ≡ false → encode_edges (cut_edges left p e k) ≡ take 0 k ++ (made ++ take (length e - (c * 66 + 66)) (drop (c * 66 + 66) e))
    unfolding edge_cut
    right_edges l = cut_edges_bytes left p e k h (bytes_of e t) ∙ rw (f, u, l, next_place, rest)

-- ---- the cut edge

-- only the cut edge may be too long
module _ (left : Bool) (p e k : List ℕ) (h : first (edge_slot_causes p e k (inside left (elements p) k)) ≡ none) where
  only_cut : all short_edge (cut_edges left p e k) ≡ short_edge (edge_cut left p e k)
  unfolding edge_cut
  only_cut = cut_short left p e k h

  pub edges_short : short_edge (edge_cut left p e k) ≡ true → all short_edge (cut_edges left p e k) ≡ true
  edges_short s = only_cut ∙ s

-- what making it answers, and leaves in the room of a record
module _ (left : Bool) (p e k : List ℕ) (c : ℕ) (z : Result ℕ Refusal) (q : z ≡ slot_edge_answer left p e k c)
    (h : first (edge_slot_causes p e k (inside left (elements p) k)) ≡ none) (f : c ≡ cutoff left (elements p) k)
    (s : (i : ℕ) → Fits w8 (get_or p i 0)) (t : (i : ℕ) → Fits w8 (get_or k i 0)) where
  told : z ≡ answer (long_edge_causes (edge_cut left p e k)) 1
  told = slot_edge_answer_lem left p e k c z q h f s t

  pub edge_made : (m : ℕ) → z ≡ Ok m → ((i : ℕ) → Fits w8 (get_or e i 0)) → (v room : List ℕ) → v ≡ slot_edge_leaves left p e k c room
      → length room ≡ 66 → (short_edge (edge_cut left p e k) ≡ true) × (v ≡ encode_edge (edge_cut left p e k))
  edge_made m r b v room u n =
      let short = edge_taken (edge_cut left p e k) z told m r in
      let i = length-encode_edge (edge_cut left p e k) short in
      let whole = over_all (encode_edge (edge_cut left p e k)) room (omega (arith, i, n)) in
      let made = passed (λ (_ : Refusal). room) _ _ _ (accepted _ 1 z told m r) refl in
      (short, slot_edge_left left p e k c v room u h f s t b (omega (arith, n)) ∙ sym made ∙ whole)

  pub edge_refused : {A : Type 0} (g : Refusal → A) (v x : A) (dp de : List ℕ) (y : Refusal) → z ≡ Err y → x ≡ g y
      → x ≡ outcome g (write_causes (cut_pivots left p k) (cut_edges left p e k) dp de) v
  edge_refused g v x dp de y r w =
      rw (only_cut left p e k h) (refused_first g v x (long_edge_causes (edge_cut left p e k)) _ y (refused _ 1 z told y r) w)
