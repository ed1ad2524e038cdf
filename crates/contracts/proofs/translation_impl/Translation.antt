-- TranslationImpl, lines 147 to 197: the translation of a key in a table, and composing prefix pairs.
use Rattle.std.specs.Prelude.{Ok, Err}
use mathlib.Core.Path.{◌≡◌, refl, ◌∙◌}
use mathlib.Core.Bool.{true, false}
use mathlib.Core.List.{List}
use mathlib.Core.Option.{Option, none, some}
use Prim.Native.Nat.{ℕ, ◌≤◌, ◌<◌}
use borrow.Author.Tests.{lt-ltb}
use lib.ListN.{length}
use Rattle.model.specs.declared.Refusal.TheVariants.{Shape, EmptyPrefix, OutOfRange, NotPrefix, TooLong}
use Rattle.model.specs.keys.Key.{Key, max_len, too_long}
use Rattle.model.specs.records.Record.{elements, edges, encode_all, encode_edges}
use Rattle.model.specs.tables.Tables.{PivotTable, EdgeTable, max_pivots, all, short_edge, WFPivots, WFEdges, BoundedKey}
use Rattle.model.specs.translation.PrefixSet.{PrefixSet, Composable, ComposePrefixSet, long_pair}
use Rattle.model.specs.translation.PairState.{PairState, pair_of, state_of}
use Rattle.model.specs.translation.Translation.{Translate, TranslateKey}
use Rattle.model.specs.calls.Refusals.{outcome, first, over}
use Rattle.model.specs.calls.TableCalls.{pivot_causes, table_causes, not_edge_count}
use Rattle.model.specs.calls.PairCalls.{there_number, compose_causes, compose_answer, compose_pair}
use Rattle.model.specs.calls.TranslationCalls.{translate_causes, translate_answer, translate_pair, translate_key_causes, translate_key_answer, translate_key_leaves}
use Rattle.model.proofs.translation.PairState.{state_pair, state_wrong}
use Rattle.model.proofs.calls.Refusals.{or_right, not_fails}
use Rattle.contracts.specs.Refuses.{RefusesAt, Refuses}
use Rattle.contracts.proofs.Refusing.{refuses_at, too_many, Refused, more_refused, call_refuses, table_pivots_refused}
use Rattle.contracts.proofs.Lent.{size_lent, accepted, go_on, pivots_read_lem, edges_read_lem, edge_slot_lent}

-- ---- the key's pair, and the key translated: lent any bytes

module _ (p e : List ℕ) (k : Key) where
  bad_pivots : WFPivots (elements p) ≡ false → Refused 3 (translate_causes p e k)
  bad_pivots h = more_refused 3 (table_causes false (too_long k) p e) _ (table_pivots_refused false (too_long k) p e h)

  -- requires |pt| < 0x4000_0000_0000_0000
  pub translation_impl_148 : max_pivots < length (elements p) → RefusesAt Err (translate_causes p e k) 0 Shape (translate_answer p e k)
  unfolding table_causes pivot_causes
  translation_impl_148 h = refuses_at _ _ (translate_causes p e k) 0 _ _ _ refl (or_right (not_edge_count p e) _ (too_many p h))

  -- requires WFPivots(pt)
  pub translation_impl_149 : WFPivots (elements p) ≡ false → Refuses Err 3 (translate_answer p e k)
  translation_impl_149 h = call_refuses _ _ 3 _ (bad_pivots h)

  -- requires BoundedKey(pt, key)
  pub translation_impl_150 : BoundedKey (elements p) k ≡ false → RefusesAt Err (translate_causes p e k) 4 OutOfRange (translate_answer p e k)
  unfolding table_causes pivot_causes
  translation_impl_150 h = refuses_at _ _ (translate_causes p e k) 4 _ _ _ refl (not_fails _ h)

  -- requires WFEdges(et, pt)
  pub translation_impl_151 : WFEdges (edges e) (elements p) ≡ false → RefusesAt Err (translate_causes p e k) 3 EmptyPrefix (translate_answer p e k)
  unfolding table_causes pivot_causes
  translation_impl_151 h = refuses_at _ _ (translate_causes p e k) 3 _ _ _ refl (not_fails _ h)

  module _ (d : List ℕ) where
    -- requires |pt| < 0x4000_0000_0000_0000
    pub translation_impl_165 : max_pivots < length (elements p) → RefusesAt Err (translate_key_causes p e k d) 0 Shape (translate_key_answer p e k d)
    unfolding table_causes pivot_causes
    translation_impl_165 h = refuses_at _ _ (translate_key_causes p e k d) 0 _ _ _ refl (or_right (not_edge_count p e) _ (too_many p h))

    -- requires WFPivots(pt)
    pub translation_impl_166 : WFPivots (elements p) ≡ false → Refuses Err 3 (translate_key_answer p e k d)
    translation_impl_166 h = call_refuses _ _ 3 _ (more_refused 3 (translate_causes p e k) _ (bad_pivots h))

    -- requires BoundedKey(pt, key)
    pub translation_impl_167 : BoundedKey (elements p) k ≡ false → RefusesAt Err (translate_key_causes p e k d) 4 OutOfRange (translate_key_answer p e k d)
    unfolding table_causes pivot_causes
    translation_impl_167 h = refuses_at _ _ (translate_key_causes p e k d) 4 _ _ _ refl (not_fails _ h)

    -- requires WFEdges(et, pt)
    pub translation_impl_168 : WFEdges (edges e) (elements p) ≡ false → RefusesAt Err (translate_key_causes p e k d) 3 EmptyPrefix (translate_key_answer p e k d)
    unfolding table_causes pivot_causes
    translation_impl_168 h = refuses_at _ _ (translate_key_causes p e k d) 3 _ _ _ refl (not_fails _ h)

    -- ensures k == TranslateKey(pt, et, key)
    -- where it passes 64 bytes, the call is refused
    pub translation_impl_170b : max_len < length (TranslateKey (elements p) (edges e) k) → RefusesAt Err (translate_key_causes p e k d) 5 TooLong (translate_key_answer p e k d)
    unfolding table_causes pivot_causes
    translation_impl_170b h = refuses_at _ _ (translate_key_causes p e k d) 5 _ _ _ refl (lt-ltb max_len (length (TranslateKey (elements p) (edges e) k)) h)

-- ---- lent the records of a table and its edges

module _ (pt : PivotTable) (et : EdgeTable) (w : WFPivots pt ≡ true) (m : length pt ≤ max_pivots) (x : WFEdges et pt ≡ true) (s : all short_edge et ≡ true)
    (k : Key) (l : length k ≤ max_len) (b : BoundedKey pt k ≡ true) where
  translate_lent : first (translate_causes (encode_all pt) (encode_edges et) k) ≡ none
  translate_lent = rw (pivots_read_lem pt w) (edge_slot_lent pt et w m x s k (BoundedKey pt k) l b)

  -- ensures pset == Translate(pt, et, key)
  pub translation_impl_153 : (translate_answer (encode_all pt) (encode_edges et) k ≡ Ok (there_number (Translate pt et k)))
      × (translate_pair (encode_all pt) (encode_edges et) k ≡ state_of (Translate pt et k))
  translation_impl_153 =
      let c = translate_causes (encode_all pt) (encode_edges et) k in
      (accepted _ _ c translate_lent ∙ rw (pivots_read_lem pt w, edges_read_lem pt et w m x s), accepted _ _ c translate_lent ∙ rw (pivots_read_lem pt w, edges_read_lem pt et w m x s))

  -- ensures k == TranslateKey(pt, et, key)
  pub translation_impl_170 : (d : List ℕ) → length (TranslateKey pt et k) ≤ max_len → length (TranslateKey pt et k) ≤ length d
      → (translate_key_answer (encode_all pt) (encode_edges et) k d ≡ Ok (length (TranslateKey pt et k)))
      × (translate_key_leaves (encode_all pt) (encode_edges et) k d ≡ over (TranslateKey pt et k) d)
  translation_impl_170 d t r =
      let o = translate_causes (encode_all pt) (encode_edges et) k in
      let c = translate_key_causes (encode_all pt) (encode_edges et) k d in
      let n : first c ≡ none = go_on some none o _ translate_lent ∙ rw (pivots_read_lem pt w, edges_read_lem pt et w m x s) (size_lent (TranslateKey pt et k) d t r) in
      (accepted _ _ c n ∙ rw (pivots_read_lem pt w, edges_read_lem pt et w m x s), accepted _ _ c n ∙ rw (pivots_read_lem pt w, edges_read_lem pt et w m x s))

-- ---- composing

-- requires ComposePrefixSet.requires(a, b)
pub translation_impl_182 : (a b : PairState) → Composable (pair_of a) (pair_of b) ≡ false → RefusesAt Err (compose_causes a b) 1 NotPrefix (compose_answer a b)
translation_impl_182 a b h = refuses_at _ _ (compose_causes a b) 1 _ _ _ refl (not_fails _ h)

-- ensures c == ComposePrefixSet(a, b)
pub translation_impl_183 : (a b : Option PrefixSet) → long_pair a ≡ false → long_pair b ≡ false → Composable a b ≡ true → long_pair (ComposePrefixSet a b) ≡ false
    → (compose_answer (state_of a) (state_of b) ≡ Ok (there_number (ComposePrefixSet a b))) × (compose_pair (state_of a) (state_of b) ≡ state_of (ComposePrefixSet a b))
translation_impl_183 a b f g h s =
    let n : first (compose_causes (state_of a) (state_of b)) ≡ none = unfold outcome in rw (state_wrong a, state_wrong b, state_pair a, state_pair b, f, g, h, s) in
    let c = compose_causes (state_of a) (state_of b) in
    (accepted _ _ c n ∙ rw (state_pair a, state_pair b), accepted _ _ c n ∙ rw (state_pair a, state_pair b))

-- ensures c == ComposePrefixSet(a, b)
-- where one of its prefixes passes 64 bytes, the call is refused
pub translation_impl_183b : (a b : PairState) → long_pair (ComposePrefixSet (pair_of a) (pair_of b)) ≡ true → RefusesAt Err (compose_causes a b) 2 TooLong (compose_answer a b)
translation_impl_183b a b h = refuses_at _ _ (compose_causes a b) 2 _ _ _ refl (h)
