-- Where the question of parent and child is answered yes, each key of the parent's slot, translated, is bounded by the child: by the calls' answers and bytes.
use Rattle.std.specs.Prelude.{Result, Ok, Err}
use mathlib.Core.Path.{◌≡◌, refl, sym, ◌∙◌}
use mathlib.Core.Bool.{Bool, true, false, cond, not, ◌||◌}
use mathlib.Core.List.{List, [], ◌∷◌, map}
use mathlib.Core.Option.{none}
use Prim.Native.Nat.{ℕ, zero, suc, ◌/◌, ◌≤◌}
use native.Mathlib.Omega.{arith}
use borrow.Author.Tests.{ltb-false}
use lib.Dec.{eqb}
use lib.ListN.{length, take, drop, get_or}
use Rattle.model.specs.declared.Refusal.{Refusal}
use Rattle.model.specs.declared.Refusal.TheVariants.{Unsorted, EmptyPrefix, TooLong}
use Rattle.model.specs.keys.Key.{Key, Bytes, max_len, too_long}
use Rattle.model.specs.records.Record.{edge, no_edge, record_size, no_edge_mark, length_field, key_bytes, edge_of, pieces, records, elements, edges}
use Rattle.model.specs.tables.Tables.{edge_at, IsStrictlySorted, BoundedKey, Route}
use Rattle.model.specs.translation.Translation.{TranslateKey}
use Rattle.model.specs.translation.ParentChild.{ParentKeysInChildRange}
use Rattle.model.specs.calls.Refusals.{◌⇒◌, outcome, first, over}
use Rattle.model.specs.calls.KeyCalls.{size_causes}
use Rattle.model.specs.calls.TableCalls.{not_pivot_count, not_edge_count, pivots_read, edges_read, edges_stand, pivot_causes, key_causes, bounded_key_answer}
use Rattle.model.specs.calls.TranslationCalls.{translate_causes, translate_key_causes, translate_key_answer, translate_key_leaves}
use Rattle.model.specs.calls.ParentChildCalls.{three_tables_causes, parent_child_causes, parent_child_answer}
use Rattle.model.proofs.Lists.{take_over}
use Rattle.model.proofs.keys.Key.{bytes_take, bytes_drop}
use Rattle.model.proofs.calls.Refusals.{passed, accepted, value_is, unrefused, none_here, none_before, none_after}
use Rattle.model.proofs.calls.TableCalls.{either_fails, causes_shape, causes_wrong, table_wf, table_bytes, not_too_long}
use Rattle.model.proofs.calls.CutCalls.{cut_table, cut_inside}
use Rattle.model.proofs.translation.ParentChild.{parent_child_bounded}

-- an edge that stands in bytes is of bytes
edge_bytes : (r : List ℕ) (q : Key) → Bytes r → edge_of r ≡ edge q → Bytes q
unfolding edge_of key_bytes
edge_bytes r q b = go (eqb (length_field r) no_edge_mark)
  where
    go : (t : Bool) → cond t no_edge (edge (take (length_field r) (drop 2 r))) ≡ edge q → Bytes q
    go true e = let z : ◌≡◌ {A = ℕ} 0 1 = cc in absurd (omega arith)
    go false e =
        let f : take (length_field r) (drop 2 r) ≡ q = cc in
        rw f at (bytes_take (length_field r) (drop 2 r) (bytes_drop 2 r b))

edges_bytes : (n : ℕ) (l : List ℕ) (i : ℕ) (q : Key) → Bytes l → get_or (map edge_of (pieces record_size n l)) i no_edge ≡ edge q → Bytes q
unfolding pieces
edges_bytes zero l i q b e = let z : ◌≡◌ {A = ℕ} 0 1 = cc in absurd (omega arith)
edges_bytes (suc n) l zero q b e = edge_bytes (take record_size l) q (bytes_take record_size l b) e
edges_bytes (suc n) l (suc i) q b e = edges_bytes n (drop record_size l) i q (bytes_drop record_size l b) e

-- an edge of lent edges is of bytes
edge_at_bytes : (e : List ℕ) (i : ℕ) (q : Key) → Bytes e → edge_at (edges e) i ≡ edge q → Bytes q
unfolding edges records
edge_at_bytes e i q b h = edges_bytes (length e / record_size) e i q b h

module _ (p e c : List ℕ) (slot : ℕ) (y : parent_child_answer p e c slot ≡ Ok true) where
  yes_none : first (parent_child_causes p e c slot) ≡ none
  yes_none = unrefused Err (Ok (ParentKeysInChildRange (elements p) (edges e) (elements c) slot)) (parent_child_causes p e c slot) (λ r f. clash r (sym y ∙ f))
    where
      clash : (r : Refusal) → Ok true ≡ Err r → ⊥
      clash r f = let z : ◌≡◌ {A = ℕ} 0 1 = cc in omega arith

  yes_is : ParentKeysInChildRange (elements p) (edges e) (elements c) slot ≡ true
  yes_is = go (ParentKeysInChildRange (elements p) (edges e) (elements c) slot) (passed Err _ _ (parent_child_causes p e c slot) yes_none refl ∙ y)
    where
      go : (t : Bool) → ◌≡◌ {A = Result Bool Refusal} (Ok t) (Ok true) → t ≡ true
      go true f = refl
      go false f = let z : ◌≡◌ {A = ℕ} 0 1 = cc in absurd (omega arith)

  three : first (three_tables_causes p e c) ≡ none
  three = none_before (three_tables_causes p e c) _ yes_none

  parents : first (pivot_causes (not_edge_count p e || not_pivot_count c) (not (edges_read (records e)) || not (pivots_read (records c))) p) ≡ none
  parents = none_before _ _ three

  counted : not_pivot_count c ≡ false
  counted = (either_fails (not_edge_count p e) (not_pivot_count c) (causes_shape _ _ p parents)).1

  read : not (pivots_read (records c)) ≡ false
  read = (either_fails (not (edges_read (records e))) (not (pivots_read (records c))) (causes_wrong _ _ p parents)).1

  rises : not (IsStrictlySorted (elements c)) ≡ false
  rises =
      let cs = pivot_causes (not_edge_count p e || not_pivot_count c) (not (edges_read (records e)) || not (pivots_read (records c))) p in
      none_here (not (IsStrictlySorted (elements c))) Unsorted ((not (edges_stand p e) ⇒ EmptyPrefix) ∷ []) (none_after cs _ three)

  -- the child has none of the causes 1 to 3, also beside a key of at most 64 bytes
  child_right : (x : Key) → length x ≤ max_len → first (key_causes c x) ≡ none
  unfolding pivot_causes outcome
  child_right x l = rw (counted, not_too_long x l, read, rises)

  module _ (k : Key) (d : List ℕ) (n : ℕ) (a : Bytes p) (b : Bytes e) (m : Bytes k) (h : translate_key_answer p e k d ≡ Ok n) (r : Route (elements p) k ≡ slot) where
    no_cause : first (translate_key_causes p e k d) ≡ none
    no_cause = accepted (translate_key_causes p e k d) (length (TranslateKey (elements p) (edges e) k)) (translate_key_answer p e k d) refl n h

    found : first (translate_causes p e k) ≡ none
    found = none_before (translate_causes p e k) (size_causes (TranslateKey (elements p) (edges e) k) d) no_cause

    image_short : length (TranslateKey (elements p) (edges e) k) ≤ max_len
    image_short =
        ltb-false max_len (length (TranslateKey (elements p) (edges e) k))
        (none_here (too_long (TranslateKey (elements p) (edges e) k)) TooLong _ (none_after (translate_causes p e k) _ no_cause))

    image_is : take n (translate_key_leaves p e k d) ≡ TranslateKey (elements p) (edges e) k
    image_is =
        let w : translate_key_leaves p e k d ≡ over (TranslateKey (elements p) (edges e) k) d = sym (passed (λ (_ : Refusal). d) _ _ (translate_key_causes p e k d) no_cause refl) in
        rw (w, value_is (translate_key_causes p e k d) _ (translate_key_answer p e k d) refl n h) (take_over (TranslateKey (elements p) (edges e) k) d)

    bounded : BoundedKey (elements c) (TranslateKey (elements p) (edges e) k) ≡ true
    bounded =
        let t = cut_table false p e k found in
        parent_child_bounded (elements p) (edges e) (elements c) slot (table_wf _ _ p e t) (table_bytes _ _ p e t a)
        (λ q f. edge_at_bytes e slot q b f) yes_is k m (cut_inside false p e k found) r

    -- the child bounds what translate_key wrote for a key of the slot
    pub parent_child_yes : bounded_key_answer c (take n (translate_key_leaves p e k d)) ≡ Ok true
    parent_child_yes =
        rw (image_is, bounded)
        (sym (passed Err (Ok true) (Ok true) (key_causes c (TranslateKey (elements p) (edges e) k)) (child_right (TranslateKey (elements p) (edges e) k) image_short) refl))
