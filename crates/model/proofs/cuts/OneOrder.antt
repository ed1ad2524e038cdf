-- One order of two cuts, by their calls: where it ends.
use mathlib.Core.Path.{◌≡◌, refl, sym, ap, ◌∙◌}
use mathlib.Core.Bool.{Bool, true, false, true≢false}
use mathlib.Core.List.{List}
use Prim.Native.Nat.{ℕ, ◌≤◌}
use lib.ListN.{length}
use Rattle.model.specs.declared.Refusal.TheVariants.{TooLong, NoRoom}
use Rattle.model.specs.keys.Key.{Key, Bytes, max_len}
use Rattle.model.specs.records.Record.{elements, edges, encode_all, encode_edges}
use Rattle.model.specs.tables.Tables.{PivotTable, EdgeTable, all, short_edge}
use Rattle.model.specs.cuts.Sides.{inside, Split, SplitEdges}
use Rattle.model.specs.calls.CutCalls.{cut_pivots, cut_edges}
use Rattle.model.specs.cuts.TwoOrders.{Dests, End, wrote, refused, cut, next}
use Rattle.model.proofs.records.Records.{edges-encode_edges}
use Rattle.model.proofs.cuts.Ends.{end_by, end_with}
use Rattle.model.proofs.cuts.OneCut.{Cuttable, Roomy, pivots_back, cut_ends_with, cut_roomy, cut_again, roomy_again}

-- a cut at j, and of what it left a cut at k, that together make qt and qe
pub record Order (left again : Bool) (j k : Key) (p e : List ℕ) (qt : PivotTable) (qe : EdgeTable) : Type 0 where
  pub start : Cuttable left j p e
  pub size : length k ≤ max_len
  pub key_is : Bytes k
  pub here : inside again (cut_pivots left p j) k ≡ true
  pub pivots : Split again (cut_pivots left p j) k ≡ qt
  pub edges : SplitEdges again (cut_edges left p e j) (cut_pivots left p j) k ≡ qe
  pub short : all short_edge qe ≡ true → all short_edge (cut_edges left p e j) ≡ true

module _ {left again : Bool} {j k : Key} {p e : List ℕ} {qt : PivotTable} {qe : EdgeTable} (o : Order left again j k p e qt qe) (a b : Dests) where
  -- what the first cut leaves
  abbrev pt : PivotTable
  pt = cut_pivots left p j

  abbrev et : EdgeTable
  et = cut_edges left p e j

  -- where the order ends
  abbrev order : End
  order = next (cut again k b) (cut left j a p e)

  -- it can be cut again
  second : all short_edge et ≡ true → Cuttable again k (encode_all pt) (encode_edges et)
  second s = cut_again o.start s again k o.size o.key_is o.here

  -- an order ends as its cuts do
  both_end : cut left j a p e ≡ end_with pt et
      → (all short_edge et ≡ true
      → cut again k b (encode_all pt) (encode_edges et) ≡ end_with (cut_pivots again (encode_all pt) k) (cut_edges again (encode_all pt) (encode_edges et) k))
      → order ≡ end_with qt qe
  both_end x y = ap (next (cut again k b)) x ∙ go (all short_edge et) refl
    where
      long : all short_edge et ≡ false → (t : Bool) → all short_edge qe ≡ t → refused TooLong ≡ end_by t false qt qe
      long s true q = absurd (true≢false (sym (o.short q) ∙ s))
      long s false q = refl

      go : (s : Bool) → all short_edge et ≡ s → next (cut again k b) (end_by s false pt et) ≡ end_with qt qe
      go true s = y s ∙ rw (pivots_back o.start, edges-encode_edges et s, o.pivots, o.edges)
      go false s = long s (all short_edge qe) refl

  -- where neither is refused for room, at qt and qe
  pub order_ends : (order ≡ refused NoRoom → ⊥) → order ≡ end_with qt qe
  order_ends h = both_end x (λ s. cut_ends_with (second s) b (λ z. h (ap (next (cut again k b)) (written s) ∙ z)))
    where
      x : cut left j a p e ≡ end_with pt et
      x = cut_ends_with o.start a (λ z. h (ap (next (cut again k b)) z))

      written : all short_edge et ≡ true → cut left j a p e ≡ wrote (length pt) (encode_all pt) (encode_edges et)
      written s = x ∙ rw s

  -- where there is room for the records of the table, the order of cuts ends at qt and qe
  pub order_roomy : Roomy (elements p) (edges e) a → Roomy (elements p) (edges e) b → order ≡ end_with qt qe
  order_roomy u v = both_end (cut_roomy o.start a u) (λ s. cut_roomy (second s) b (roomy_again o.start s b v))
