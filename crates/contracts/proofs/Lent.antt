-- A call that is lent the records of a well-formed table has none of the table's causes, and reads the table.
use mathlib.Core.Path.{◌≡◌, refl, sym, ap, ◌∙◌}
use mathlib.Core.Bool.{Bool, true, false, not}
use mathlib.Core.List.{List, ◌++◌}
use mathlib.Core.Option.{none, some}
use Prim.Native.Nat.{ℕ, ◌≤◌}
use borrow.Author.Tests.{le-ltb, eq-eqb, leb-true}
use lib.ListN.{length}
use Rattle.model.specs.declared.Refusal.{Refusal}
use Rattle.model.specs.calls.Refusals.{Cause, outcome, first}
use Rattle.model.specs.calls.KeyCalls.{not_record, not_element, size_causes}
use Rattle.model.specs.calls.TableCalls.{pivot_causes, table_causes, key_causes, slot_causes, edge_slot_causes}
use Rattle.model.specs.keys.Key.{Key, max_len, too_long}
use Rattle.model.specs.keys.Order.{Element, key, max}
use Rattle.model.specs.records.Record.{record_size, reading, element_reading, element, encode, elements, edges, encode_all, encode_edges}
use Rattle.model.specs.tables.Tables.{PivotTable, EdgeTable, max_pivots, all, short_element, short_edge, WFPivots, WFEdges}
use Rattle.model.proofs.calls.Refusals.{passed, after}
use Rattle.model.proofs.calls.TableCalls.{not_too_long}
use Rattle.model.proofs.calls.Alike.{slot_first}
use Rattle.model.proofs.calls.WrittenTables.{wf_causes, wf_table_causes}
use Rattle.model.proofs.records.Record.{length_encode, element_encode, reading_key, reading_max}
use Rattle.model.proofs.records.Records.{elements-encode_all, edges-encode_edges}
use Rattle.model.proofs.tables.Routing.{wf_all_short}

-- where no cause applies a call answers its value
pub accepted : {A : Type 0} (f : Refusal → A) (v : A) (cs : List Cause) → first cs ≡ none → outcome f cs v ≡ v
accepted f v cs h = sym (passed f v v cs h refl)

-- where none of the first causes applies, the others decide
pub go_on : {A : Type 0} (f : Refusal → A) (v : A) (cs ds : List Cause) → first cs ≡ none → outcome f (cs ++ ds) v ≡ outcome f ds v
go_on f v cs ds h = sym (after f v (outcome f ds v) cs ds h refl)

-- room for a produced key of at most 64 bytes
pub size_lent : (x : Key) (d : List ℕ) → length x ≤ max_len → length x ≤ length d → first (size_causes x d) ≡ none
unfolding outcome
size_lent x d s r = rw (not_too_long x s, le-ltb (length d) (length x) r)

-- an element as its record
pub record ElementLent (r : List ℕ) (e : Element) : Type 0 where
  pub one : not_record r ≡ false
  pub right : not_element r ≡ false
  pub stands : element r ≡ e

pub element_lent : (e : Element) → short_element e ≡ true → ElementLent (encode e) e
element_lent e s =
    record {
      one = ap not (eq-eqb (length (encode e)) record_size (length_encode e s));
      right = ap not (reads e s);
      stands = element_encode e s;
    }
  where
    reads : (e : Element) → short_element e ≡ true → element_reading (reading (encode e)) ≡ true
    reads (key k) h = rw (reading_key k (leb-true (length k) max_len h))
    reads max h = rw reading_max

-- pivots as their records
module _ (pt : PivotTable) (w : WFPivots pt ≡ true) where
  pub pivots_read_lem : elements (encode_all pt) ≡ pt
  pivots_read_lem = elements-encode_all pt (wf_all_short pt w)

  pub pivots_lent : (shape wrong : Bool) → length pt ≤ max_pivots → shape ≡ false → wrong ≡ false → first (pivot_causes shape wrong (encode_all pt)) ≡ none
  pivots_lent shape wrong m s f = rw (s, f) (wf_causes pt w m)

  -- with a key inside
  pub slot_lent : (k : Key) (inside : Bool) → length pt ≤ max_pivots → length k ≤ max_len → inside ≡ true → first (slot_causes (encode_all pt) k inside) ≡ none
  slot_lent k inside m s i =
      go_on some none (key_causes (encode_all pt) k) _ (pivots_lent false (too_long k) m refl (not_too_long k s)) ∙ (unfold outcome in rw i)

-- pivots and edges as their records
module _ (pt : PivotTable) (et : EdgeTable) (w : WFPivots pt ≡ true) (m : length pt ≤ max_pivots) (x : WFEdges et pt ≡ true) (s : all short_edge et ≡ true) where
  pub edges_read_lem : edges (encode_edges et) ≡ et
  edges_read_lem = edges-encode_edges et s

  pub table_lent : (wrong : Bool) → wrong ≡ false → first (table_causes false wrong (encode_all pt) (encode_edges et)) ≡ none
  table_lent = wf_table_causes pt et w m x s

  -- with a key inside
  pub edge_slot_lent : (k : Key) (inside : Bool) → length k ≤ max_len → inside ≡ true → first (edge_slot_causes (encode_all pt) (encode_edges et) k inside) ≡ none
  edge_slot_lent k inside l i = slot_first (encode_all pt) (encode_edges et) k inside (table_lent false refl) i ∙ rw (not_too_long k l)
