-- TranslationImpl, lines 243 to 283: a table's pivots under another prefix, and its edges filled.
use Rattle.std.specs.Prelude.{Ok, Err}
use mathlib.Core.Path.{◌≡◌, refl, sym, ◌∙◌}
use mathlib.Core.Bool.{true, false, ◌||◌, true≢false}
use mathlib.Core.List.{List}
use mathlib.Core.Logic.{⊎_elim}
use mathlib.Core.Option.{none, some}
use Prim.Native.Nat.{ℕ, ◌+◌, ◌*◌, ◌-◌, ◌≤◌, ◌<◌}
use native.Mathlib.Omega.{arith}
use borrow.Author.Tests.{le-ltb, ne_eqb}
use lib.ListN.{length}
use lib.Seq.{length-take-le, get_or-take}
use Rattle.model.specs.declared.Refusal.TheVariants.{Shape, Malformed, EmptyPrefix, NotPrefix, TooLong, NotBelow}
use Rattle.model.specs.keys.Key.{Key, max_len, too_long, IsPrefix}
use Rattle.model.specs.keys.Order.{Element, max, lt}
use Rattle.model.specs.records.Record.{record_size, reading, element, element_reading, encode, elements, edges, encode_all, encode_edges}
use Rattle.model.specs.tables.Tables.{PivotTable, EdgeTable, NumBuckets, max_pivots, pivot_at, GetKey, all, short_element, short_edge, WFPivots, WFEdges}
use Rattle.model.specs.translation.Renaming.{TranslateElement, TranslatePivots}
use Rattle.model.specs.calls.Refusals.{outcome, first, over}
use Rattle.model.specs.calls.KeyCalls.{not_element, not_record}
use Rattle.model.specs.calls.TableCalls.{pivot_causes, table_causes, not_edge_count, not_pivot_count}
use Rattle.model.specs.calls.RenamingCalls.{but_last, begun, pivots_causes, pivots_answer, pivots_leaves, edges_causes, edges_answer, edges_leaves}
use Rattle.model.proofs.Lists.{all_inside, inside_all, le_or_lt}
use Rattle.model.proofs.calls.Refusals.{or_left, or_right, not_fails}
use Rattle.model.proofs.calls.TableCalls.{not_too_long, length_elements, length_edges}
use Rattle.model.proofs.keys.Order.{refuted}
use Rattle.model.proofs.tables.Routing.{wf_count}
use Rattle.model.proofs.translation.Renaming.{pivots_count, edges_count}
use Rattle.model.proofs.cuts.CutEdges.{edges_say}
use Rattle.contracts.specs.Refuses.{RefusesAt, Refuses}
use Rattle.contracts.specs.Translation.{TranslatePivotsFrom, TranslateEdgesFrom}
use Rattle.contracts.proofs.Refusing.{refuses_at, too_many, more_refused, call_refuses, pivots_refused, table_pivots_refused}
use Rattle.contracts.proofs.LongRefused.{new_pivots_refused}
use Rattle.contracts.proofs.Lent.{accepted, go_on, element_lent, pivots_read_lem, pivots_lent, edges_read_lem, table_lent}

-- ---- pivots

-- the prefix begins each pivot but the last: at each place, and of all
module _ (pt : PivotTable) (p : Key) where
  before : length (but_last pt) ≡ NumBuckets pt
  before = length-take-le (NumBuckets pt) pt (omega arith)

  begun_at : all (begun p) (but_last pt) ≡ true → (i : ℕ) → i < NumBuckets pt → IsPrefix p (GetKey pt i) ≡ true
  unfolding GetKey
  begun_at h i l = rw (get_or-take (NumBuckets pt) pt i max l) at (all_inside (begun p) (but_last pt) i max (omega (arith, before)) h)

  begun_all : ((i : ℕ) → i < NumBuckets pt → IsPrefix p (GetKey pt i) ≡ true) → all (begun p) (but_last pt) ≡ true
  unfolding GetKey
  begun_all f = inside_all (begun p) (but_last pt) max (λ i l. let m : i < NumBuckets pt = omega (arith, before) in rw (get_or-take (NumBuckets pt) pt i max m) (f i m))

-- lent any bytes
module _ (v : List ℕ) (p q : Key) (n d : List ℕ) where
  -- requires |pt| < Uint64UpperBound()
  pub translation_impl_244 : max_pivots < length (elements v) → RefusesAt Err (pivots_causes v p q n d) 0 Shape (pivots_answer v p q n d)
  unfolding pivot_causes
  translation_impl_244 h = refuses_at _ _ (pivots_causes v p q n d) 0 _ _ _ refl (or_right (not_record n) _ (too_many v h))

  -- requires WFPivots(pt)
  pub translation_impl_245 : WFPivots (elements v) ≡ false → Refuses Err 3 (pivots_answer v p q n d)
  translation_impl_245 h = call_refuses _ _ 3 (pivots_causes v p q n d) (more_refused 3 (pivot_causes (not_record n) (too_long p || too_long q || not_element n) v) _ (pivots_refused _ _ v h))

  -- requires forall i | 0 <= i < NumBuckets(pt) :: IsPrefix(prefix, pt[i].e)
  pub translation_impl_246 : (i : ℕ) → i < NumBuckets (elements v) → IsPrefix p (GetKey (elements v) i) ≡ false → RefusesAt Err (pivots_causes v p q n d) 3 NotPrefix (pivots_answer v p q n d)
  unfolding pivot_causes
  translation_impl_246 i l h = refuses_at _ _ (pivots_causes v p q n d) 3 _ _ _ refl (not_fails _ (refuted (all (begun p) (but_last (elements v))) (λ b. true≢false (sym (begun_at (elements v) p b i l) ∙ h))))

  -- requires end.Element? ==> ElementIsKey(end)
  -- the record isn't read as an element; one that is has at most 64 bytes
  pub translation_impl_247 : element_reading (reading n) ≡ false → RefusesAt Err (pivots_causes v p q n d) 1 Malformed (pivots_answer v p q n d)
  unfolding pivot_causes
  translation_impl_247 h = refuses_at _ _ (pivots_causes v p q n d) 1 _ _ _ refl (or_left _ _ (or_right (too_long p || too_long q) _ (not_fails _ h)))

  -- requires Keyspace.lt(TranslateElement(pt[|pt|-2], prefix, newPrefix), end)
  pub translation_impl_248 : lt (TranslateElement p q (pivot_at (elements v) (length (elements v) - 2))) (element n) ≡ false → RefusesAt Err (pivots_causes v p q n d) 5 NotBelow (pivots_answer v p q n d)
  unfolding pivot_causes
  translation_impl_248 h = refuses_at _ _ (pivots_causes v p q n d) 5 _ _ _ refl (let i : NumBuckets (elements v) - 1 ≡ length (elements v) - 2 = omega arith in rw (i, h))

  -- ensures pt' == TranslatePivots(pt, prefix, newPrefix, end, 0)
  -- where one of these pivots passes 64 bytes, the call is refused
  pub translation_impl_249b : all short_element (TranslatePivots (elements v) p q (element n)) ≡ false → RefusesAt Err (pivots_causes v p q n d) 4 TooLong (pivots_answer v p q n d)
  translation_impl_249b = new_pivots_refused v p q n d

-- lent the records of pivots and of an end
module _ (pt : PivotTable) (w : WFPivots pt ≡ true) (m : length pt ≤ max_pivots) (p q : Key) (a : length p ≤ max_len) (b : length q ≤ max_len)
    (f : (i : ℕ) → i < NumBuckets pt → IsPrefix p (GetKey pt i) ≡ true) (end : Element) (e : short_element end ≡ true)
    (g : lt (TranslateElement p q (pivot_at pt (length pt - 2))) end ≡ true) (t : all short_element (TranslatePivots pt p q end) ≡ true)
    (d : List ℕ) (room : length pt * record_size ≤ length d) where
  renamed_lent : first (pivots_causes (encode_all pt) p q (encode end) d) ≡ none
  unfolding outcome
  renamed_lent =
      let c = pivots_count pt p q end (omega (arith, wf_count pt w)) in
      let i : NumBuckets pt - 1 ≡ length pt - 2 = omega arith in
      let o = element_lent end e in
      go_on some none (pivot_causes (not_record (encode end)) (too_long p || too_long q || not_element (encode end)) (encode_all pt)) _
      (pivots_lent pt w _ _ m o.one (rw (not_too_long p a, not_too_long q b, o.right)))
      ∙ rw (pivots_read_lem pt w, o.stands, begun_all pt p f, t, i, g, c, le-ltb _ _ room)

  -- ensures pt' == TranslatePivots(pt, prefix, newPrefix, end, 0)
  pub translation_impl_249 : (pivots_answer (encode_all pt) p q (encode end) d ≡ Ok (length (TranslatePivotsFrom pt p q end 0)))
      × (pivots_leaves (encode_all pt) p q (encode end) d ≡ over (encode_all (TranslatePivotsFrom pt p q end 0)) d)
  translation_impl_249 =
      let c = pivots_causes (encode_all pt) p q (encode end) d in
      let o = element_lent end e in
      (accepted _ _ c renamed_lent ∙ rw (pivots_read_lem pt w, o.stands), accepted _ _ c renamed_lent ∙ rw (pivots_read_lem pt w, o.stands))

-- ---- edges

-- 64 edges, or more, aren't one fewer than a table's pivots
few : (p e : List ℕ) → max_pivots ≤ length (edges e) → (not_edge_count p e || not_pivot_count p) ≡ true
few p e h = ⊎_elim less (λ m. or_right (not_edge_count p e) _ (too_many p m)) (le_or_lt (length (elements p)) max_pivots)
  where
    less : length (elements p) ≤ max_pivots → (not_edge_count p e || not_pivot_count p) ≡ true
    less m =
        let l = length_elements p in
        let n = length_edges e in
        or_left (not_edge_count p e) (not_pivot_count p) (unfold not_edge_count in not_fails _ (ne_eqb (length e + record_size) (length p) (λ i. omega arith)))

-- lent any bytes
module _ (p e d : List ℕ) where
  -- requires |et| < Uint64UpperBound()
  -- the limit is 63 edges, one fewer than pivots
  pub translation_impl_264 : max_pivots ≤ length (edges e) → RefusesAt Err (edges_causes p e d) 0 Shape (edges_answer p e d)
  unfolding table_causes pivot_causes
  translation_impl_264 h = refuses_at _ _ (edges_causes p e d) 0 _ _ _ refl (few p e h)

  -- requires WFPivots(pt)
  pub translation_impl_265 : WFPivots (elements p) ≡ false → Refuses Err 3 (edges_answer p e d)
  translation_impl_265 h = call_refuses _ _ 3 (edges_causes p e d) (more_refused 3 (table_causes false false p e) _ (table_pivots_refused false false p e h))

  -- requires WFEdges(et, pt)
  pub translation_impl_266 : WFEdges (edges e) (elements p) ≡ false → RefusesAt Err (edges_causes p e d) 3 EmptyPrefix (edges_answer p e d)
  unfolding table_causes pivot_causes
  translation_impl_266 h = refuses_at _ _ (edges_causes p e d) 3 _ _ _ refl (not_fails _ h)

-- lent the records of a table and its edges
module _ (pt : PivotTable) (et : EdgeTable) (w : WFPivots pt ≡ true) (m : length pt ≤ max_pivots) (x : WFEdges et pt ≡ true) (s : all short_edge et ≡ true)
    (d : List ℕ) (room : length et * record_size ≤ length d) where
  filled_lent : first (edges_causes (encode_all pt) (encode_edges et) d) ≡ none
  unfolding outcome
  filled_lent =
      go_on some none (table_causes false false (encode_all pt) (encode_edges et)) _ (table_lent pt et w m x s false refl)
      ∙ rw (pivots_read_lem pt w, edges_read_lem pt et w m x s, edges_count et pt (edges_say et pt x).count, le-ltb _ _ room)

  -- ensures et' == TranslateEdges(et, pt, 0)
  pub translation_impl_267 : (edges_answer (encode_all pt) (encode_edges et) d ≡ Ok (length (TranslateEdgesFrom et pt 0)))
      × (edges_leaves (encode_all pt) (encode_edges et) d ≡ over (encode_edges (TranslateEdgesFrom et pt 0)) d)
  translation_impl_267 =
      let c = edges_causes (encode_all pt) (encode_edges et) d in
      (accepted _ _ c filled_lent ∙ rw (pivots_read_lem pt w, edges_read_lem pt et w m x s), accepted _ _ c filled_lent ∙ rw (pivots_read_lem pt w, edges_read_lem pt et w m x s))
