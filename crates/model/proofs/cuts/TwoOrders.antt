-- Demand 3: the two orders of cutting at l and r, by the calls' own answers and bytes.
use Rattle.std.specs.Prelude.{Ok}
use mathlib.Core.Path.{◌≡◌, refl, sym, ap, ◌∙◌}
use mathlib.Core.Bool.{Bool, true, false, true≢false, false≢true}
use mathlib.Core.List.{List}
use mathlib.Core.Option.{none}
use Prim.Native.Nat.{ℕ, ◌≤◌}
use native.Mathlib.Omega.{arith}
use lib.ListN.{length}
use Rattle.model.specs.declared.Refusal.TheVariants.{NoRoom}
use Rattle.model.specs.keys.Key.{Key, Bytes, max_len}
use Rattle.model.specs.keys.Order.{key, lte, lt}
use Rattle.model.specs.records.Record.{elements, edges, encode_all, encode_edges}
use Rattle.model.specs.tables.Tables.{PivotTable, EdgeTable, pivot_at, last_pivot, all, short_edge, WFPivots, WFEdges, ContainsRange, BoundedKey, BytesT}
use Rattle.model.specs.cuts.Cuts.{plain_cut, plain_cut_edges}
use Rattle.model.specs.calls.Refusals.{first}
use Rattle.model.specs.calls.TableCalls.{table_causes, wf_edges_answer}
use Rattle.model.specs.cuts.TwoOrders.{Dests, NoShorter, End, refused, accepted, right_then_left, left_then_right, plain_end, Preserved, TwoOrders, Demand3}
use Rattle.model.proofs.tables.Routing.{wf_all_short, contains_range_bounded}
use Rattle.model.proofs.cuts.Ranges.{cut_to, cut_bounded}
use Rattle.model.proofs.calls.TableCalls.{length_elements, length_edges, table_wf, table_most, table_edges, table_edges_short, table_bytes}
use Rattle.model.proofs.calls.TableAnswers.{answered_yes}
use Rattle.model.proofs.records.Records.{elements-encode_all, edges-encode_edges}
use Rattle.model.proofs.cuts.PlainCut.{right_accepted, left_after_right, left_accepted, right_after_left, right_left, left_right, plain_wf, plain_most}
use Rattle.model.proofs.cuts.PlainCut.{right_left_edges, left_right_edges, plain_edges_wf, plain_preserved, right_edges_short, left_edges_short}
use Rattle.model.proofs.calls.WrittenTables.{wf_table_causes}
use Rattle.model.proofs.calls.Alike.{alike}
use Rattle.model.proofs.cuts.Ends.{end_by, end_with}
use Rattle.model.proofs.cuts.OneCut.{Roomy}
use Rattle.model.proofs.cuts.OneOrder.{Order, order_ends, order_roomy}

-- the keys from l up to, but without, r, are bounded in the plain cut
plain_bounded : (pt : PivotTable) (l r k : Key) → lte (key l) (key k) ≡ true → lt (key k) (key r) ≡ true → BoundedKey (plain_cut pt l r) k ≡ true
unfolding plain_cut cut_to
plain_bounded pt l r k u v = rw (cut_bounded pt (key l) (key r) k, u) v

-- destinations no shorter than a table's bytes have room for its records
no_shorter : (p e : List ℕ) (d : Dests) → NoShorter p e d → Roomy (elements p) (edges e) d
no_shorter p e d n =
    record { pivots = omega (arith, n.pivots, length_elements p); edges = omega (arith, n.edges, length_edges e) }

-- an end in plenty of room is no refusal for room
not_for_room : (pt : PivotTable) (et : EdgeTable) → end_with pt et ≡ refused NoRoom → ⊥
not_for_room pt et = go (all short_edge et)
  where
    go : (t : Bool) → end_by t false pt et ≡ refused NoRoom → ⊥
    go true x = true≢false (ap accepted x)
    go false x = let z : ◌≡◌ {A = ℕ} 0 1 = cc in absurd (omega arith)

module _ (p e : List ℕ) (l r : Key) (b : Bytes p) (bl : Bytes l) (br : Bytes r) (y : wf_edges_answer p e ≡ Ok true)
    (ml : length l ≤ max_len) (mr : length r ≤ max_len) (h : lt (key l) (key r) ≡ true)
    (f : lte (pivot_at (elements p) 0) (key l) ≡ true) (g : lte (key r) (last_pivot (elements p)) ≡ true) where
  -- the plain cut
  abbrev qt : PivotTable
  qt = plain_cut (elements p) l r

  abbrev qe : EdgeTable
  qe = plain_cut_edges (elements p) (edges e) l r

  -- what is said of the table
  t : first (table_causes false false p e) ≡ none
  t = answered_yes p e y

  w : WFPivots (elements p) ≡ true
  w = table_wf false false p e t

  x : WFEdges (edges e) (elements p) ≡ true
  x = table_edges false false p e t

  bt : BytesT (elements p)
  bt = table_bytes false false p e t b

  s : all short_edge (edges e) ≡ true
  s = table_edges_short false false p e t

  -- "cutting off what lies below l and then, from what that left, what lies from r on"
  right_then_left_lem : Order false true l r p e qt qe
  right_then_left_lem =
      record {
        start = record { table = t; bytes = bt; size = ml; key_is = bl; here = right_accepted (elements p) l r w h f g };
        size = mr;
        key_is = br;
        here = left_after_right (elements p) l r w h f g;
        pivots = right_left (elements p) l r w h f g;
        edges = right_left_edges (elements p) l r w h f g bt bl br (edges e) x;
        short = λ q. right_edges_short (elements p) l r w h f g bt bl br (edges e) x q s;
      }

  -- "the other order"
  left_then_right_lem : Order true false r l p e qt qe
  left_then_right_lem =
      record {
        start = record { table = t; bytes = bt; size = mr; key_is = br; here = left_accepted (elements p) l r w h f g };
        size = ml;
        key_is = bl;
        here = right_after_left (elements p) l r w h f g;
        pivots = left_right (elements p) l r w h f g;
        edges = left_right_edges (elements p) l r w h f g bt bl br (edges e) x;
        short = λ q. left_edges_short (elements p) l r w h f g bt bl br (edges e) x q s;
      }

  -- "all destinations long enough": those no shorter than the table's own are
  pub roomy : (a b c d : Dests) → NoShorter p e a → NoShorter p e b → NoShorter p e c → NoShorter p e d
      → (right_then_left l r a b p e ≡ refused NoRoom → ⊥) × (left_then_right l r c d p e ≡ refused NoRoom → ⊥)
  roomy a b c d u v i j =
      let m = order_roomy right_then_left_lem a b (no_shorter p e a u) (no_shorter p e b v) in
      let n = order_roomy left_then_right_lem c d (no_shorter p e c i) (no_shorter p e d j) in
      ((λ z. not_for_room qt qe (sym m ∙ z)), (λ z. not_for_room qt qe (sym n ∙ z)))

  -- what the plain cut writes translates its keys as the table does
  plain_alike : all short_edge qe ≡ true → Preserved l r p e (plain_end l r p e)
  plain_alike q k c u v =
      let z = plain_wf (elements p) l r w h f g ml mr in
      let m = plain_most (elements p) l r w h f g in
      let i = plain_edges_wf (elements p) l r w h f g bt bl br (edges e) x in
      let back = elements-encode_all qt (wf_all_short qt z) in
      alike p e (encode_all qt) (encode_edges qe) k t (wf_table_causes qt qe z (omega (arith, table_most false false p e t)) i q false refl)
      (contains_range_bounded (elements p) (key l) (key r) k (unfold ContainsRange in rw f g) u v) (rw back (plain_bounded (elements p) l r k u v))
      (rw (back, edges-encode_edges qe q) (plain_preserved (elements p) l r w h f g bt bl br (edges e) x k c u v))

  -- two ends at the plain cut are what the claim asks for
  both_plain : (x y : End) → x ≡ end_with qt qe → y ≡ end_with qt qe → TwoOrders l r p e x y
  both_plain x y u v = rw (u, v) (go (all short_edge qe) refl)
    where
      go : (t : Bool) → all short_edge qe ≡ t → TwoOrders l r p e (end_by t false qt qe) (end_by t false qt qe)
      go true q =
          record {
            exactly = refl;
            namely = sym q;
            otherwise = λ z. absurd (true≢false z);
            plain = λ z. (refl, refl);
            preserved = (plain_alike q, plain_alike q);
          }
      go false q =
          record {
            exactly = refl;
            namely = sym q;
            otherwise = λ z. (refl, refl);
            plain = λ z. absurd (false≢true z);
            preserved = (tt, tt);
          }

-- Demand 3
pub two_orders : Demand3
two_orders p e l r a b c d bp bl br y ml mr h f g u v =
    both_plain p e l r bp bl br y ml mr h f g (right_then_left l r a b p e) (left_then_right l r c d p e)
    (order_ends (right_then_left_lem p e l r bp bl br y ml mr h f g) a b u) (order_ends (left_then_right_lem p e l r bp bl br y ml mr h f g) c d v)
