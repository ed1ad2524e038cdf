-- One cut by its call, on the left or the right: where it ends, and that what it writes is a table again, which translates its keys as the uncut one does.
use mathlib.Core.Path.{◌≡◌, refl, sym, ◌∙◌}
use mathlib.Core.Bool.{Bool, true, false}
use mathlib.Core.List.{List}
use mathlib.Core.Option.{none, some}
use Prim.Native.Nat.{ℕ, ◌*◌, ◌≤◌}
use native.Mathlib.Omega.{arith}
use borrow.Author.Tests.{le-ltb}
use lib.ListN.{length}
use Rattle.model.specs.declared.Refusal.TheVariants.{NoRoom}
use Rattle.model.specs.keys.Key.{Key, Bytes, max_len}
use Rattle.model.specs.records.Record.{record_size, elements, edges, encode_all, encode_edges}
use Rattle.model.specs.tables.Tables.{PivotTable, EdgeTable, all, short_edge, WFPivots, WFEdges, BoundedKey, BytesT}
use Rattle.model.specs.cuts.Sides.{inside}
use Rattle.model.specs.calls.Refusals.{first}
use Rattle.model.specs.calls.TableCalls.{table_causes}
use Rattle.model.specs.calls.CutCalls.{cut_pivots, cut_edges, write_causes, cut_causes}
use Rattle.model.specs.calls.TableCalls.{edge_slot_causes}
use Rattle.model.specs.cuts.TwoOrders.{Dests, refused, cut, TranslatedAlike}
use Rattle.model.proofs.calls.Refusals.{after}
use Rattle.model.proofs.tables.Routing.{wf_all_short}
use Rattle.model.proofs.records.Records.{elements-encode_all, edges-encode_edges}
use Rattle.model.proofs.cuts.CutEdges.{edges_say}
use Rattle.model.proofs.cuts.Ends.{full, end_by, end_with, write_ends}
use Rattle.model.proofs.calls.TableCalls.{table_wf, table_most, table_edges, not_too_long}
use Rattle.model.proofs.calls.WrittenTables.{wf_table_causes}
use Rattle.model.proofs.cuts.Sides.{split_wf, split_most, split_bounded, split_bytes, split_edges_wf, split_preserved}
use Rattle.model.proofs.calls.Alike.{slot_first, alike}

-- what a cut at k of pivots p and edges e needs, but for the length of its edges and for room
pub record Cuttable (left : Bool) (k : Key) (p e : List ℕ) : Type 0 where
  pub table : first (table_causes false false p e) ≡ none
  pub bytes : BytesT (elements p)
  pub size : length k ≤ max_len
  pub key_is : Bytes k
  pub here : inside left (elements p) k ≡ true

-- the destinations have room for the records of pt and et
pub record Roomy (pt : PivotTable) (et : EdgeTable) (d : Dests) : Type 0 where
  pub pivots : length pt * record_size ≤ length d.for_pivots
  pub edges : length et * record_size ≤ length d.for_edges

module _ {left : Bool} {k : Key} {p e : List ℕ} (c : Cuttable left k p e) where
  -- the pivots and the edges of the cut
  abbrev pt : PivotTable
  pt = cut_pivots left p k

  abbrev et : EdgeTable
  et = cut_edges left p e k

  -- the table is well formed
  old_wf : WFPivots (elements p) ≡ true
  old_wf = table_wf false false p e c.table

  old_edges : WFEdges (edges e) (elements p) ≡ true
  old_edges = table_edges false false p e c.table

  -- the cut is well formed
  cut_wf : WFPivots pt ≡ true
  cut_wf = split_wf (elements p) k old_wf left c.here c.size

  cut_edges_wf : WFEdges et pt ≡ true
  cut_edges_wf = split_edges_wf (elements p) k old_wf c.bytes c.key_is (edges e) old_edges left c.here

  -- the pivots written read back
  pub pivots_back : elements (encode_all pt) ≡ pt
  pivots_back = elements-encode_all pt (wf_all_short pt cut_wf)

  module _ (d : Dests) where
    -- only the last causes, of what is written, are left
    cut_first : first (cut_causes left p e k d.for_pivots d.for_edges) ≡ first (write_causes pt et d.for_pivots d.for_edges)
    cut_first =
        let cs = edge_slot_causes p e k (inside left (elements p) k) in
        let f : first cs ≡ none = slot_first p e k _ c.table c.here ∙ rw (not_too_long k c.size) in
        sym (after some none _ cs _ f refl)

    -- a cut ends where what it writes, and the room for it, say
    pub cut_ends : cut left k d p e ≡ end_by (all short_edge et) (full pt et d) pt et
    cut_ends = write_ends pt et d cut_wf cut_edges_wf (cut_causes left p e k d.for_pivots d.for_edges) cut_first

    -- where it is not refused for room, there is room
    pub cut_ends_with : (cut left k d p e ≡ refused NoRoom → ⊥) → cut left k d p e ≡ end_with pt et
    cut_ends_with f = cut_ends ∙ go (all short_edge et) (full pt et d) (λ x. f (cut_ends ∙ x))
      where
        go : (s t : Bool) → (end_by s t pt et ≡ refused NoRoom → ⊥) → end_by s t pt et ≡ end_by s false pt et
        go true true f = absurd (f refl)
        go true false f = refl
        go false t f = refl

    -- the cut has no more records than the table
    cut_fits : Roomy (elements p) (edges e) d → Roomy pt et d
    cut_fits r =
        let m = split_most (elements p) k old_wf left c.here in
        let i = (edges_say et pt cut_edges_wf).count in
        let j = (edges_say (edges e) (elements p) old_edges).count in
        record { pivots = omega (arith, r.pivots); edges = omega (arith, r.edges) }

    -- so there is room where there is room for those of the table
    pub cut_roomy : Roomy (elements p) (edges e) d → cut left k d p e ≡ end_with pt et
    cut_roomy r =
        let w = cut_fits r in
        let f = le-ltb (length d.for_pivots) (length pt * record_size) w.pivots in
        let g = le-ltb (length d.for_edges) (length et * record_size) w.edges in
        cut_ends ∙ rw (f, g)

  module _ (s : all short_edge et ≡ true) where
    -- what it writes is a table again
    pub cut_table : first (table_causes false false (encode_all pt) (encode_edges et)) ≡ none
    cut_table =
        let m = split_most (elements p) k old_wf left c.here in
        wf_table_causes pt et cut_wf (omega (arith, table_most false false p e c.table)) cut_edges_wf s false refl

    -- that can be cut again
    pub cut_again : (left' : Bool) (k' : Key) → length k' ≤ max_len → Bytes k' → inside left' pt k' ≡ true
        → Cuttable left' k' (encode_all pt) (encode_edges et)
    cut_again left' k' m b v =
        record {
          table = cut_table;
          bytes = rw pivots_back (split_bytes (elements p) k old_wf c.bytes c.key_is left c.here);
          size = m;
          key_is = b;
          here = rw pivots_back v;
        }

    -- has room where the table has
    pub roomy_again : (d : Dests) → Roomy (elements p) (edges e) d → Roomy (elements (encode_all pt)) (edges (encode_edges et)) d
    roomy_again d r = rw (pivots_back, edges-encode_edges et s) (cut_fits d r)

    -- the cut translates its keys as the table does
    pub cut_alike : (j : Key) → Bytes j → BoundedKey pt j ≡ true → TranslatedAlike p e (encode_all pt) (encode_edges et) j
    cut_alike j b h =
        alike p e (encode_all pt) (encode_edges et) j c.table cut_table (split_bounded (elements p) k old_wf left c.here j h) (rw pivots_back h)
        (rw (pivots_back, edges-encode_edges et s)
        (split_preserved (elements p) k old_wf c.bytes c.key_is (edges e) old_edges left c.here j b h))
