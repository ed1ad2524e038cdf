-- What an insertion into a slot answers and writes.
use Rattle.std.specs.Prelude.{Result, Ok, Err}
use mathlib.Core.Path.{◌≡◌, refl, sym, ◌∙◌}
use mathlib.Core.Bool.{Bool, true, false, ◌&&◌, true≢false}
use mathlib.Core.List.{List, [], ◌++◌}
use mathlib.Core.Option.{none, some}
use Prim.Native.Nat.{ℕ, ◌+◌, ◌*◌, ◌-◌, ◌≤◌}
use native.Mathlib.Omega.{arith}
use borrow.Author.Tests.{not-false}
use borrow.Rule.Slice.PartMut.{put_mid}
use mir.Syntax.{w8}
use mir.Val.{Fits}
use lib.ListN.{length, take, drop, get_or, length-drop}
use Rattle.model.specs.declared.Refusal.{Refusal}
use Rattle.model.specs.declared.Refusal.TheVariants.{TooLong}
use Rattle.model.specs.records.Record.{record_size, elements, record_of, encode_edge, encode_all, encode_edges}
use Rattle.model.specs.inner.Written.{clipped}
use Rattle.model.specs.tables.Tables.{all, short_edge, Route}
use Rattle.model.specs.calls.Refusals.{outcome, first, answer, over}
use Rattle.model.specs.cuts.Sides.{inside, cutoff}
use Rattle.model.specs.calls.TableCalls.{edge_slot_causes}
use Rattle.model.specs.calls.CutCalls.{write_causes}
use Rattle.model.specs.calls.InsertionCalls.{inserted_pivots, inserted_edges, new_pivot_causes}
use Rattle.model.proofs.Lists.{rest, lent_on, length_over, over_all, take_over, clipped_all}
use Rattle.model.proofs.calls.Refusals.{refused_first, none_here, accepted, refused, value_is}
use Rattle.model.proofs.records.Record.{length-encode_edge}
use Rattle.model.proofs.keys.Key.{both, bytes_of}
use Rattle.model.proofs.calls.InsertionCalls.{insert_found, insert_cutoff, insert_key, insert_pivots_bytes, insert_edges_bytes, insert_short, insert_half_long}
use Rattle.model.proofs.calls.CutPlaces.{next_place}
use Rattle.slot_edges.specs.Slot.{slot_edge_answer, slot_edge_leaves, edge_cut, long_edge_causes}
use Rattle.slot_edges.proofs.Edges.{edge_taken}
use Rattle.slot_edges.proofs.Slots.{slot_edge_answer_lem, slot_edge_left}
use Rattle.insertion.specs.New.{edges_cut, long_edges}

module _ (p e k : List ℕ) (c : ℕ) (h : first (new_pivot_causes p e k) ≡ none) (f : c ≡ Route (elements p) k) where
  -- ---- the bytes of the new table

  pub new_pivots_lem : (v : List ℕ) → ((i : ℕ) → Fits w8 (get_or p i 0)) → v ≡ record_of (length k) (clipped k)
      → encode_all (inserted_pivots p k) ≡ take (c * 66 + 66) p ++ (v ++ take (length p - (c * 66 + 66)) (drop (c * 66 + 66) p))
  new_pivots_lem v t u =
      let w : v ≡ record_of (length k) k = rw (clipped_all k (insert_key p e k h)) at u in
      insert_pivots_bytes p e k h (bytes_of p t) ∙ rw (f, w, next_place, rest)

  pub new_edges_lem : (made : List ℕ) → ((i : ℕ) → Fits w8 (get_or e i 0)) → made ≡ edges_cut p e k
      → encode_edges (inserted_edges p e k) ≡ take (c * 66) e ++ (made ++ take (length e - (c * 66 + 66)) (drop (c * 66 + 66) e))
  unfolding edge_cut
  new_edges_lem made t u = insert_edges_bytes p e k h (bytes_of e t) ∙ rw (f, u, next_place, rest)

-- ---- the slot

module _ (p e k : List ℕ) (s : Result ℕ Refusal) (q : s ≡ answer (new_pivot_causes p e k) (Route (elements p) k)) (c : ℕ) (r : s ≡ Ok c) where
  pub new_none : first (new_pivot_causes p e k) ≡ none
  new_none = accepted _ _ s q c r

  pub new_slot : c ≡ Route (elements p) k
  new_slot = value_is _ _ s q c r

  pub new_found : (left : Bool) → first (edge_slot_causes p e k (inside left (elements p) k)) ≡ none
  new_found left = insert_found p e k new_none left

  pub new_cutoff : (left : Bool) → c ≡ cutoff left (elements p) k
  new_cutoff left = new_slot ∙ insert_cutoff p e k new_none left

-- ---- the edges of the halves

module _ (p e k : List ℕ) (h : first (new_pivot_causes p e k) ≡ none) where
  -- they alone may be too long
  only_halves : all short_edge (inserted_edges p e k) ≡ (short_edge (edge_cut true p e k) && short_edge (edge_cut false p e k))
  unfolding edge_cut
  only_halves = insert_short p e k h

  half_long : (left : Bool) → short_edge (edge_cut left p e k) ≡ false → all short_edge (inserted_edges p e k) ≡ false
  unfolding edge_cut
  half_long left f = insert_half_long p e k h left f

  pub short_halves : all short_edge (inserted_edges p e k) ≡ true → (left : Bool) → short_edge (edge_cut left p e k) ≡ true
  short_halves f true = (both _ _ (sym only_halves ∙ f)).0
  short_halves f false = (both (short_edge (edge_cut true p e k)) _ (sym only_halves ∙ f)).1

-- what making them answers
module _ (p e k : List ℕ) (c : ℕ) (h : first (new_pivot_causes p e k) ≡ none) (f : c ≡ Route (elements p) k)
    (s : (i : ℕ) → Fits w8 (get_or p i 0)) (t : (i : ℕ) → Fits w8 (get_or k i 0)) where
  half_answer : (left : Bool) (z : Result ℕ Refusal) → z ≡ slot_edge_answer left p e k c → z ≡ answer (long_edge_causes (edge_cut left p e k)) 1
  half_answer left z q = slot_edge_answer_lem left p e k c z q (insert_found p e k h left) (f ∙ insert_cutoff p e k h left) s t

  module _ (z : Result ℕ Refusal) where
    -- a long one ends the insertion
    module _ (left : Bool) (q : z ≡ slot_edge_answer left p e k c) (y : Refusal) (r : z ≡ Err y) where
      half_is_long : short_edge (edge_cut left p e k) ≡ false
      unfolding outcome
      half_is_long = go (short_edge (edge_cut left p e k)) refl
        where
          go : (b : Bool) → short_edge (edge_cut left p e k) ≡ b → b ≡ false
          go true b =
              let i : none ≡ some y = rw b at (refused (long_edge_causes (edge_cut left p e k)) 1 z (half_answer left z q) y r) in
              let n : ◌≡◌ {A = ℕ} 0 1 = cc in absurd (omega arith)
          go false b = refl

      pub half_refused : (x : Result ℕ Refusal) → x ≡ Err y → x ≡ answer (long_edges (inserted_edges p e k)) 1
      unfolding outcome
      half_refused x o = o ∙ sym r ∙ half_answer left z q ∙ rw (half_is_long, half_long p e k h left half_is_long)

      pub half_unmade : (w : List ℕ) → all short_edge (inserted_edges p e k) ≡ true → w ≡ edges_cut p e k
      half_unmade w g = absurd (true≢false (sym g ∙ half_long p e k h left half_is_long))

    -- beside a short one the other decides
    pub second_half : (a : Result ℕ Refusal) (i : ℕ) → a ≡ slot_edge_answer true p e k c → a ≡ Ok i → z ≡ slot_edge_answer false p e k c
        → z ≡ answer (long_edges (inserted_edges p e k)) 1
    unfolding outcome
    second_half a i g r q = half_answer false z q ∙ rw (only_halves p e k h, edge_taken (edge_cut true p e k) a (half_answer true a g) i r)

-- ---- what the edges of the halves answer

module _ (p e k : List ℕ) (z : Result ℕ Refusal) (q : z ≡ answer (long_edges (inserted_edges p e k)) 1) where
  -- taken, they are short
  pub edges_taken : (m : ℕ) → z ≡ Ok m → all short_edge (inserted_edges p e k) ≡ true
  edges_taken m r = not-false _ (none_here _ TooLong [] (accepted _ 1 z q m r))

  -- refused, they end the insertion
  pub edges_refused : {A : Type 0} (g : Refusal → A) (v x : A) (dp de : List ℕ) (y : Refusal) → z ≡ Err y → x ≡ g y
      → x ≡ outcome g (write_causes (inserted_pivots p k) (inserted_edges p e k) dp de) v
  edges_refused g v x dp de y r w = refused_first g v x (long_edges (inserted_edges p e k)) _ y (refused _ 1 z q y r) w

-- ---- both made, one after the other

module _ (p e k : List ℕ) (c : ℕ) (h : first (new_pivot_causes p e k) ≡ none) (f : c ≡ Route (elements p) k)
    (s : (i : ℕ) → Fits w8 (get_or p i 0)) (t : (i : ℕ) → Fits w8 (get_or k i 0)) (x : (i : ℕ) → Fits w8 (get_or e i 0)) where
  half_left : (left : Bool) (w made : List ℕ) → w ≡ slot_edge_leaves left p e k c made → record_size ≤ length made
      → short_edge (edge_cut left p e k) ≡ true → w ≡ over (encode_edge (edge_cut left p e k)) made
  unfolding outcome
  half_left left w made q m b =
      rw b at (slot_edge_left left p e k c w made q (insert_found p e k h left) (f ∙ insert_cutoff p e k h left) s t x m)

  pub both_made : (made one two : List ℕ) → length made ≡ 132 → one ≡ slot_edge_leaves true p e k c made
      → two ≡ slot_edge_leaves false p e k c (take (length one - 66) (drop 66 one)) → all short_edge (inserted_edges p e k) ≡ true
      → put_mid 66 (length one - 66) one two ≡ edges_cut p e k
  both_made made one two n u v g =
      let left = edge_cut true p e k in
      let right = edge_cut false p e k in
      let b = short_halves p e k h g in
      let size = length-encode_edge left (b true) in
      let head = half_left true one made u (omega (arith, n)) (b true) in
      let whole : length one ≡ 132 = rw head (omega (arith, n, length_over (encode_edge left) made (omega arith))) in
      let kept : take 66 one ≡ encode_edge left = rw (head, ← size) (take_over (encode_edge left) made) in
      let m : length (take (length one - 66) (drop 66 one)) ≡ 66 = rw (rest one 66, length-drop 66 one) (omega arith) in
      let tail = half_left false two (take (length one - 66) (drop 66 one)) v (omega (arith, m)) (b false) in
      let all_of = over_all (encode_edge right) (take (length one - 66) (drop 66 one)) (omega (arith, m, length-encode_edge right (b false))) in
      lent_on 66 one two ∙ rw (kept, tail, all_of)
