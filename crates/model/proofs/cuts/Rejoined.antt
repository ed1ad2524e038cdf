-- The two cuts of a table at a key, joined: the table where the key is a pivot, and else what an insertion of the key makes of it.
use Rattle.std.specs.Prelude.{Ok, Err}
use mathlib.Core.Path.{◌≡◌, sym, ap, ◌∙◌}
use mathlib.Core.Logic.{◌⊎◌, inl, inr}
use mathlib.Core.Bool.{true, false, true≢false}
use mathlib.Core.List.{List, [], ◌∷◌, ◌++◌, append_assoc}
use mathlib.Core.Option.{none, some}
use Prim.Native.Nat.{ℕ, ◌+◌, ◌≤◌, ◌<◌}
use native.Mathlib.Omega.{arith}
use borrow.Author.Tests.{le-ltb}
use lib.ListN.{length, take, drop, take-append-drop}
use Rattle.model.specs.declared.Refusal.{Refusal}
use Rattle.model.specs.declared.Refusal.TheVariants.{TooManyPivots}
use Rattle.model.specs.keys.Key.{Key, Bytes, too_long}
use Rattle.model.specs.keys.Order.{Element, key, lt}
use Rattle.model.specs.records.Record.{elements, edges, encode_all, encode_edges}
use Rattle.model.specs.tables.Tables.{PivotTable, EdgeTable, max_pivots, pivot_at, last_pivot, all, short_edge, IsStrictlySorted, WFPivots, WFEdges, BoundedKey, ValidLeftCutOffKey, Route, CutoffForLeft, CutoffForRight, is_pivot}
use Rattle.model.specs.cuts.Cuts.{SplitLeft, SplitRight, SplitLeftEdges, SplitRightEdges}
use Rattle.model.specs.cuts.Sides.{inside}
use Rattle.model.specs.cuts.Insertion.{InsertPivot}
use Rattle.model.specs.cuts.Join.{JoinPivots, JoinEdges}
use Rattle.model.specs.calls.Refusals.{◌⇒◌, outcome, first, over}
use Rattle.model.specs.calls.TableCalls.{table_causes, edge_slot_causes}
use Rattle.model.specs.calls.InsertionCalls.{inserted_pivots, inserted_edges, too_many_pivots, new_pivot_causes, insert_causes}
use Rattle.model.specs.calls.JoinCalls.{joined_pivots, joined_edges, meeting_causes, join_causes}
use Rattle.model.specs.cuts.TwoOrders.{Dests, NoShorter, wrote, cut}
use Rattle.model.specs.cuts.Joined.{join, AsInserted, Rejoins}
use Rattle.model.proofs.keys.Order.{lte_refl, lt_false}
use Rattle.model.proofs.Lists.{le_or_lt}
use Rattle.model.proofs.calls.Refusals.{after, followed, following, none_paired}
use Rattle.model.proofs.calls.TableCalls.{table_wf, table_edges, table_edges_short, table_bytes, table_most, table_wrong}
use Rattle.model.proofs.calls.Writing.{short_room}
use Rattle.model.proofs.calls.CutCalls.{cut_table, cut_inside, cut_key}
use Rattle.model.proofs.calls.JoinCalls.{join_edges_short, meeting_first}
use Rattle.model.proofs.tables.Places.{sorted_at}
use Rattle.model.proofs.tables.Routing.{wf_sorted, route_inside, cutoff_right_is_route, cutoff_left_inside}
use Rattle.model.proofs.tables.NewPivot.{Strictly, new_strictly, strictly_cutoff, pivot_left, pivot_right}
use Rattle.model.proofs.cuts.Cuts.{split_left_last, split_right_first}
use Rattle.model.proofs.cuts.SplitEdges.{split_left_pivot, split_right_pivot}
use Rattle.model.proofs.cuts.Insertion.{Insertable, insert_edges}
use Rattle.model.proofs.cuts.LongInsertion.{inside_contained}
use Rattle.model.proofs.cuts.AcceptedCuts.{no_slot_cause, cut_wrote_elements, cut_wrote_edge_table, cut_leaves_table}
use Rattle.model.proofs.cuts.Ends.{ends_as_lent}
use Rattle.model.proofs.cuts.Join.{around}
use Rattle.model.proofs.cuts.Joined.{join_ends}

-- ---- on tables

-- the cuts joined: the key between the pivots that they keep
joined_cuts : (pt : PivotTable) (k : Key) → JoinPivots (SplitLeft pt k) (SplitRight pt k) ≡ take (CutoffForLeft pt k + 1) pt ++ (key k ∷ drop (CutoffForRight pt k + 1) pt)
unfolding JoinPivots SplitLeft SplitRight
joined_cuts pt k = append_assoc (take (CutoffForLeft pt k + 1) pt) (key k ∷ []) (drop (CutoffForRight pt k + 1) pt)

-- pivots that rise strictly are the same only at the same place
same_place : (pt : PivotTable) (i j : ℕ) → IsStrictlySorted pt ≡ true → i < length pt → j < length pt → pivot_at pt i ≡ pivot_at pt j → i ≡ j
same_place pt i j s a b e = go (le_or_lt i j) (le_or_lt j i)
  where
    apart : (x y : Element) → x ≡ y → lt x y ≡ true → ⊥
    apart x y f l = true≢false (sym (lte_refl y) ∙ rw f at (lt_false x y l))

    go : (i ≤ j) ⊎ (j < i) → (j ≤ i) ⊎ (i < j) → i ≡ j
    go (inl m) (inl n) = omega arith
    go (inl m) (inr n) = absurd (apart (pivot_at pt i) (pivot_at pt j) e (sorted_at pt i j s n b))
    go (inr m) n = absurd (apart (pivot_at pt j) (pivot_at pt i) (sym e) (sorted_at pt j i s m a))

module _ (pt : PivotTable) (k : Key) (w : WFPivots pt ≡ true) (v : ValidLeftCutOffKey pt k ≡ true) (b : BoundedKey pt k ≡ true) (h : is_pivot pt k ≡ true) where
  -- a pivot ends the slot of the left cut, and begins that of the right one
  one_place : CutoffForLeft pt k + 1 ≡ CutoffForRight pt k
  one_place =
      let m = cutoff_left_inside pt k w v in
      let n = route_inside pt k w b in
      let e = cutoff_right_is_route pt k in
      same_place pt (CutoffForLeft pt k + 1) (CutoffForRight pt k) (wf_sorted pt w) (omega arith) (omega arith) (sym (pivot_left pt k w h v) ∙ pivot_right pt k w h b)

  -- so the cuts joined are the table
  old_pivots : JoinPivots (SplitLeft pt k) (SplitRight pt k) ≡ pt
  old_pivots =
      let n = cutoff_left_inside pt k w v in
      joined_cuts pt k ∙ rw (← one_place, pivot_left pt k w h v) (around pt (CutoffForLeft pt k + 1) (omega arith))

  -- with its edges
  old_edges : (et : EdgeTable) → WFEdges et pt ≡ true → JoinEdges (SplitLeftEdges et pt k) (SplitRightEdges et pt k) ≡ et
  unfolding JoinEdges
  old_edges et x =
      rw (split_left_pivot pt et k w x v (pivot_left pt k w h v), split_right_pivot pt et k w x b (pivot_right pt k w h b), ← one_place)
      (take-append-drop (CutoffForLeft pt k + 1) et)

-- ---- on the calls

module _ (p e : List ℕ) (k : Key) (c d : Dests) (m n : ℕ) (l x r y : List ℕ) (bp : Bytes p) (be : Bytes e) (bk : Bytes k)
    (f : cut true k c p e ≡ wrote m l x) (g : cut false k d p e ≡ wrote n r y) where
  -- the cuts are accepted
  found : first (edge_slot_causes p e k (inside true (elements p) k)) ≡ none
  found = no_slot_cause true k c p e m l x f

  found_right : first (edge_slot_causes p e k (inside false (elements p) k)) ≡ none
  found_right = no_slot_cause false k d p e n r y g

  valid : ValidLeftCutOffKey (elements p) k ≡ true
  valid = cut_inside true p e k found

  bounded : BoundedKey (elements p) k ≡ true
  bounded = cut_inside false p e k found_right

  -- the table has none of the causes 1 to 4
  table : first (table_causes false (too_long k) p e) ≡ none
  table = cut_table true p e k found

  wf : WFPivots (elements p) ≡ true
  wf = table_wf false (too_long k) p e table

  fits : WFEdges (edges e) (elements p) ≡ true
  fits = table_edges false (too_long k) p e table

  -- nor have the cuts
  left_table : first (table_causes false false l x) ≡ none
  left_table = cut_leaves_table true k c p e m l x f bp bk

  right_table : first (table_causes false false r y) ≡ none
  right_table = cut_leaves_table false k d p e n r y g bp bk

  -- joined they have these pivots and edges
  pivots_are : joined_pivots l r ≡ JoinPivots (SplitLeft (elements p) k) (SplitRight (elements p) k)
  pivots_are = rw (cut_wrote_elements true k c p e m l x f bp bk, cut_wrote_elements false k d p e n r y g bp bk)

  edges_are : joined_edges x y ≡ JoinEdges (SplitLeftEdges (edges e) (elements p) k) (SplitRightEdges (edges e) (elements p) k)
  edges_are = rw (cut_wrote_edge_table true k c p e m l x f bp bk, cut_wrote_edge_table false k d p e n r y g bp bk)

  -- they meet at the key, so of their causes only 12 and 10 are left
  meet : last_pivot (elements l) ≡ pivot_at (elements r) 0
  meet =
      rw (cut_wrote_elements true k c p e m l x f bp bk, cut_wrote_elements false k d p e n r y g bp bk)
      (split_left_last (elements p) k wf valid ∙ sym (split_right_first (elements p) k wf bounded))

  few : first (meeting_causes l x r y) ≡ first ((too_many_pivots (joined_pivots l r) ⇒ TooManyPivots) ∷ [])
  few = meeting_first l x r y left_table right_table meet

  -- a pivot: the old table
  module _ (h : is_pivot (elements p) k ≡ true) where
    pivots_old : joined_pivots l r ≡ elements p
    pivots_old = pivots_are ∙ old_pivots (elements p) k wf valid bounded h

    edges_old : joined_edges x y ≡ edges e
    edges_old = edges_are ∙ old_edges (elements p) k wf valid bounded h (edges e) fits

    not_many : first (meeting_causes l x r y) ≡ none
    unfolding outcome
    not_many = few ∙ rw (pivots_old, le-ltb max_pivots (length (elements p)) (table_most false (too_long k) p e table))

    old : (z : Dests) → NoShorter p e z → join z l x r y ≡ wrote (length (elements p)) p e
    old z s =
        let t = rw (table_wrong false (too_long k) p e table) at table in
        join_ends l x r y not_many z ∙ rw (pivots_old, edges_old) (rw (table_edges_short false false p e t) at (ends_as_lent p e z t bp be s))

  -- no pivot: what insertion makes
  module _ (h : is_pivot (elements p) k ≡ false) where
    strictly : Strictly (elements p) (Route (elements p) k) k
    strictly = new_strictly (elements p) k wf (inside_contained true (elements p) k valid) h

    can : Insertable (elements p) (edges e) k
    can =
        record {
          wf = wf;
          fits = fits;
          bytes = table_bytes false (too_long k) p e table bp;
          key_is = bk;
          size = cut_key true p e k found;
          strictly = strictly;
        }

    new_pivots_lem : joined_pivots l r ≡ inserted_pivots p k
    unfolding InsertPivot
    new_pivots_lem =
        let a = strictly_cutoff (elements p) k wf (Route (elements p) k) strictly true in
        let b = strictly_cutoff (elements p) k wf (Route (elements p) k) strictly false in
        pivots_are ∙ joined_cuts (elements p) k ∙ rw (a, b)

    new_edges_lem : joined_edges x y ≡ inserted_edges p e k
    unfolding JoinEdges
    new_edges_lem = edges_are ∙ sym (insert_edges can)

    short : all short_edge (inserted_edges p e k) ≡ true
    short = rw new_edges_lem at (join_edges_short l x r y (none_paired _ _ left_table right_table))

    -- the causes of the key are the same
    same_first : first (meeting_causes l x r y) ≡ first (new_pivot_causes p e k)
    unfolding outcome
    same_first =
        few ∙ after some none _ (table_causes false (too_long k) p e) _ table (rw (new_pivots_lem, inside_contained true (elements p) k valid, h))

    -- joining the cuts has the outcome of inserting the key, whatever is answered
    same : {A : Type 0} (z : Refusal → A) (v v' : A) (dp de : List ℕ) → v ≡ v' → outcome z (join_causes l x r y dp de) v ≡ outcome z (insert_causes p e k dp de) v'
    same z v v' dp de q =
        rw (← q) (followed z v (meeting_causes l x r y) (new_pivot_causes p e k) _ same_first
        ∙ rw (new_pivots_lem, new_edges_lem) (following z v (new_pivot_causes p e k) _ _ (sym (short_room z v (inserted_pivots p k) (inserted_edges p e k) dp de short))))

    new : AsInserted p e k l x r y
    new dp de = (
      same Err _ _ dp de (ap (λ (t : PivotTable). Ok (length t)) new_pivots_lem),
      same (λ (_ : Refusal). dp) _ _ dp de (ap (λ (t : PivotTable). over (encode_all t) dp) new_pivots_lem),
      same (λ (_ : Refusal). de) _ _ dp de (ap (λ (t : EdgeTable). over (encode_edges t) de) new_edges_lem),
    )

-- ---- the claim

pub rejoins : Rejoins
rejoins p e k c d m n l x r y bp be bk f g = record { old = old p e k c d m n l x r y bp be bk f g; new = new p e k c d m n l x r y bp be bk f g }
