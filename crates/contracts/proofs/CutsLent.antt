-- A cut that is lent the records of a table and its edges, with room for what it leaves, has no cause to refuse.
use mathlib.Core.Path.{◌≡◌, ◌∙◌}
use mathlib.Core.Bool.{Bool, true}
use mathlib.Core.List.{List}
use mathlib.Core.Option.{none, some}
use Prim.Native.Nat.{ℕ, ◌*◌, ◌≤◌}
use borrow.Author.Tests.{le-ltb}
use lib.ListN.{length}
use Rattle.model.specs.keys.Key.{Key, max_len}
use Rattle.model.specs.records.Record.{record_size, encode_all, encode_edges}
use Rattle.model.specs.tables.Tables.{PivotTable, EdgeTable, max_pivots, all, short_edge, WFPivots, WFEdges}
use Rattle.model.specs.cuts.Sides.{inside, Split, SplitEdges}
use Rattle.model.specs.calls.Refusals.{outcome, first}
use Rattle.model.specs.calls.TableCalls.{edge_slot_causes}
use Rattle.model.specs.calls.CutCalls.{cut_causes}
use Rattle.contracts.proofs.Lent.{go_on, pivots_read_lem, edges_read_lem, edge_slot_lent}

module _ (pt : PivotTable) (et : EdgeTable) (w : WFPivots pt ≡ true) (m : length pt ≤ max_pivots) (x : WFEdges et pt ≡ true) (s : all short_edge et ≡ true) where
  pub cut_lent : (left : Bool) (k : Key) (dp de : List ℕ) → length k ≤ max_len → inside left pt k ≡ true → all short_edge (SplitEdges left et pt k) ≡ true
      → length (Split left pt k) * record_size ≤ length dp → length (SplitEdges left et pt k) * record_size ≤ length de
      → first (cut_causes left (encode_all pt) (encode_edges et) k dp de) ≡ none
  cut_lent left k dp de l i f rp re =
      rw (pivots_read_lem pt w, edges_read_lem pt et w m x s)
      (go_on some none (edge_slot_causes (encode_all pt) (encode_edges et) k (inside left pt k)) _ (edge_slot_lent pt et w m x s k (inside left pt k) l i) ∙ (unfold outcome in rw (f, le-ltb _ _ rp, le-ltb _ _ re)))
