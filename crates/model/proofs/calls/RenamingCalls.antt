-- What accepted calls leave: a renamed range, renamed pivots and filled edges read back, and the pivots pass the check.
use Rattle.std.specs.Prelude.{Ok}
use mathlib.Core.Path.{◌≡◌, refl, sym, ◌∙◌}
use mathlib.Core.Bool.{true, false, not, ◌&&◌, ◌||◌}
use mathlib.Core.List.{List, [], ◌∷◌}
use mathlib.Core.Option.{none}
use Prim.Native.Nat.{ℕ, ◌*◌, ◌<◌}
use native.Mathlib.Omega.{arith}
use borrow.Author.Tests.{not-false}
use lib.ListN.{length, take}
use lib.Seq.{length-take-le, get_or-take}
use Rattle.model.specs.declared.Refusal.{Refusal}
use Rattle.model.specs.declared.Refusal.TheVariants.{Shape, Malformed, NotPrefix, TooLong, NotBelow, NoRoom}
use Rattle.model.specs.keys.Key.{Key, too_long, IsPrefix}
use Rattle.model.specs.keys.Order.{max, lt}
use Rattle.model.specs.records.Record.{record_size, element, elements, edges, encode_all, encode_edges}
use Rattle.model.specs.tables.Tables.{NumBuckets, pivot_at, key_of, all, short_element, short_edge, WFPivots}
use Rattle.model.specs.calls.Refusals.{Cause, ◌⇒◌, first, leaves, over}
use Rattle.model.specs.calls.KeyCalls.{not_record, not_element, no_room}
use Rattle.model.specs.calls.TableCalls.{pivot_causes, table_causes}
use Rattle.model.specs.calls.RenamingCalls.{new_bounds, long_bounds, both_bounds, pivot_pair_causes, pivot_pair_answer, pivot_pair_leaves}
use Rattle.model.specs.calls.RenamingCalls.{but_last, begun, new_pivots, last_translated, pivots_causes, pivots_answer, pivots_leaves}
use Rattle.model.specs.calls.RenamingCalls.{new_edges, edges_causes, edges_answer, edges_leaves}
use Rattle.model.proofs.Lists.{take_over, all_inside}
use Rattle.model.proofs.keys.Key.{both}
use Rattle.model.proofs.records.Records.{length-encode_all, length-encode_edges, elements-encode_all, edges-encode_edges}
use Rattle.model.proofs.calls.Refusals.{passed, accepted, value_is, none_here, none_later, none_before, none_after}
use Rattle.model.proofs.calls.TableCalls.{causes_wf, causes_most, table_wf, table_edges_short}
use Rattle.model.proofs.calls.WrittenTables.{wf_causes}
use Rattle.model.proofs.tables.Routing.{wf_count, wf_all_short}
use Rattle.model.proofs.translation.Renaming.{pivots_count, pivots_wf, edges_short}

-- what a call that no cause stops wrote is read back from the head of its destination
pub wrote : (cs : List Cause) (w d : List ℕ) (n : ℕ) → first cs ≡ none → length w ≡ n → take n (leaves cs w d) ≡ w
wrote cs w d n h e =
    let f : leaves cs w d ≡ over w d = sym (passed (λ (_ : Refusal). d) (over w d) (over w d) cs h refl) in
    rw (f, ← e) (take_over w d)

-- ---- a range

module _ (l : Key) (r : List ℕ) (p q : Key) (d : List ℕ) (m : ℕ) (h : pivot_pair_answer l r p q d ≡ Ok m) where
  pair_none : first (pivot_pair_causes l r p q d) ≡ none
  pair_none = accepted (pivot_pair_causes l r p q d) 2 (pivot_pair_answer l r p q d) refl m h

  -- neither bound passes 64 bytes
  pair_short : (short_element (new_bounds l r p q).left && short_element (new_bounds l r p q).right) ≡ true
  pair_short =
      not-false _
      (none_here (long_bounds (new_bounds l r p q)) TooLong _
      (none_later (not (IsPrefix p l)) NotPrefix _
      (none_later (too_long l || not_element r || too_long p || too_long q) Malformed _ (none_later (not_record r) Shape _ pair_none))))

  both_short : all short_element (both_bounds (new_bounds l r p q)) ≡ true
  unfolding all
  both_short = let w = both (short_element (new_bounds l r p q).left) (short_element (new_bounds l r p q).right) pair_short in rw (w.0, w.1)

  -- the two records written stand for the new bounds
  pub pair_reads : elements (take (m * record_size) (pivot_pair_leaves l r p q d)) ≡ both_bounds (new_bounds l r p q)
  pair_reads =
      let n = length-encode_all (both_bounds (new_bounds l r p q)) both_short in
      let v = value_is (pivot_pair_causes l r p q d) 2 (pivot_pair_answer l r p q d) refl m h in
      rw (wrote (pivot_pair_causes l r p q d) (encode_all (both_bounds (new_bounds l r p q))) d (m * record_size) pair_none (n ∙ rw v))
      (elements-encode_all (both_bounds (new_bounds l r p q)) both_short)

-- ---- pivots

module _ (v : List ℕ) (p q : Key) (n d : List ℕ) (m : ℕ) (h : pivots_answer v p q n d ≡ Ok m) where
  pivots_none : first (pivots_causes v p q n d) ≡ none
  pivots_none = accepted (pivots_causes v p q n d) (length (new_pivots v p q n)) (pivots_answer v p q n d) refl m h

  table_none : first (pivot_causes (not_record n) (too_long p || too_long q || not_element n) v) ≡ none
  table_none = none_before _ _ pivots_none

  wf : WFPivots (elements v) ≡ true
  wf = causes_wf _ _ v table_none

  seven : first ((not (all (begun p) (but_last (elements v))) ⇒ NotPrefix) ∷ (not (all short_element (new_pivots v p q n)) ⇒ TooLong) ∷ (not (lt (last_translated v p q) (element n)) ⇒ NotBelow) ∷ (no_room (length (new_pivots v p q n) * record_size) d ⇒ NoRoom) ∷ []) ≡ none
  seven = none_after (pivot_causes (not_record n) (too_long p || too_long q || not_element n) v) _ pivots_none

  -- each pivot but the last begins with the prefix
  begin : (i : ℕ) → i < NumBuckets (elements v) → IsPrefix p (key_of (pivot_at (elements v) i)) ≡ true
  begin i l =
      let b = not-false (all (begun p) (but_last (elements v))) (none_here _ NotPrefix _ seven) in
      let t = length-take-le (NumBuckets (elements v)) (elements v) (omega arith) in
      rw (get_or-take (NumBuckets (elements v)) (elements v) i max l) at (all_inside (begun p) (but_last (elements v)) i max (omega (arith, t)) b)

  -- none of the new ones passes 64 bytes
  short : all short_element (new_pivots v p q n) ≡ true
  short = not-false _ (none_here _ TooLong _ (none_later _ NotPrefix _ seven))

  -- the end is above the last translated key
  above : lt (last_translated v p q) (element n) ≡ true
  above = not-false _ (none_here _ NotBelow _ (none_later _ TooLong _ (none_later _ NotPrefix _ seven)))

  written : take (m * record_size) (pivots_leaves v p q n d) ≡ encode_all (new_pivots v p q n)
  written =
      let c = value_is (pivots_causes v p q n d) (length (new_pivots v p q n)) (pivots_answer v p q n d) refl m h in
      wrote (pivots_causes v p q n d) (encode_all (new_pivots v p q n)) d (m * record_size) pivots_none (length-encode_all (new_pivots v p q n) short ∙ rw c)

  -- the records written stand for the new pivots
  pub pivots_read_lem : elements (take (m * record_size) (pivots_leaves v p q n d)) ≡ new_pivots v p q n
  pivots_read_lem = rw written (elements-encode_all (new_pivots v p q n) short)

  -- the records written pass the check: they can be lent to the next call
  pub pivots_pass : first (pivot_causes false false (take (m * record_size) (pivots_leaves v p q n d))) ≡ none
  pivots_pass =
      let c = pivots_count (elements v) p q (element n) (omega (arith, wf_count (elements v) wf)) in
      rw written (wf_causes (new_pivots v p q n) (pivots_wf (elements v) p q (element n) wf begin above short) (omega (arith, c, causes_most _ _ v table_none)))

-- ---- edges

module _ (p e d : List ℕ) (m : ℕ) (h : edges_answer p e d ≡ Ok m) where
  edges_none : first (edges_causes p e d) ≡ none
  edges_none = accepted (edges_causes p e d) (length (new_edges p e)) (edges_answer p e d) refl m h

  edges_table : first (table_causes false false p e) ≡ none
  edges_table = none_before (table_causes false false p e) _ edges_none

  filled_short : all short_edge (new_edges p e) ≡ true
  filled_short = edges_short (edges e) (elements p) (wf_all_short (elements p) (table_wf _ _ p e edges_table)) (table_edges_short _ _ p e edges_table)

  -- the records written stand for the new edges
  pub edges_read_lem : edges (take (m * record_size) (edges_leaves p e d)) ≡ new_edges p e
  edges_read_lem =
      let c = value_is (edges_causes p e d) (length (new_edges p e)) (edges_answer p e d) refl m h in
      rw (wrote (edges_causes p e d) (encode_edges (new_edges p e)) d (m * record_size) edges_none (length-encode_edges (new_edges p e) filled_short ∙ rw c))
      (edges-encode_edges (new_edges p e) filled_short)
