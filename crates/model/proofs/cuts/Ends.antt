-- Where a call that writes a table ends: at its first cause, or with the records written.
use Rattle.std.specs.Prelude.{Ok, Err}
use mathlib.Core.Path.{◌≡◌, refl, sym, ap, ◌∙◌}
use mathlib.Core.Bool.{Bool, true, false, cond, ◌||◌, true≢false}
use mathlib.Core.List.{List}
use mathlib.Core.Option.{none, some}
use Prim.Native.Nat.{ℕ, ◌*◌, ◌-◌, ◌≤◌}
use native.Mathlib.Omega.{arith}
use borrow.Author.Tests.{le-ltb}
use lib.ListN.{length}
use Rattle.model.specs.declared.Refusal.{Refusal}
use Rattle.model.specs.declared.Refusal.TheVariants.{TooLong, NoRoom}
use Rattle.model.specs.keys.Key.{Bytes}
use Rattle.model.specs.records.Record.{record_size, elements, edges, encode_all, encode_edges}
use Rattle.model.specs.tables.Tables.{PivotTable, EdgeTable, all, short_edge, WFPivots, WFEdges}
use Rattle.model.specs.calls.Refusals.{Cause, outcome, first, answer, leaves, over}
use Rattle.model.specs.calls.KeyCalls.{no_room}
use Rattle.model.specs.calls.TableCalls.{table_causes}
use Rattle.model.specs.calls.CutCalls.{write_causes}
use Rattle.model.specs.cuts.TwoOrders.{Dests, NoShorter, End, wrote, refused, accepted, end_of}
use Rattle.model.proofs.Lists.{take_over}
use Rattle.model.proofs.calls.Refusals.{refused_by, passed, unrefused}
use Rattle.model.proofs.calls.TableCalls.{table_whole, table_edges_whole, table_edges_short, table_encode, table_encode_edges}
use Rattle.model.proofs.tables.Routing.{wf_all_short}
use Rattle.model.proofs.records.Records.{length-encode_all, length-encode_edges}
use Rattle.model.proofs.cuts.CutEdges.{edges_say}

module _ (cs : List Cause) (n : ℕ) (w x dp de : List ℕ) where
  -- a call ends at the first cause that applies
  pub ends_refused : (r : Refusal) → first cs ≡ some r → end_of (answer cs n) (leaves cs w dp) (leaves cs x de) ≡ refused r
  ends_refused r h = rw (sym (refused_by Err (Ok n) _ cs r h refl))

  -- or where it has written, at the heads of its destinations
  pub ends_wrote : first cs ≡ none → n * record_size ≡ length w → (n - 1) * record_size ≡ length x
      → end_of (answer cs n) (leaves cs w dp) (leaves cs x de) ≡ wrote n w x
  ends_wrote h a b =
      rw (
        sym (passed Err (Ok n) _ cs h refl),
        sym (passed (λ (r : Refusal). dp) (over w dp) _ cs h refl),
        sym (passed (λ (r : Refusal). de) (over x de) _ cs h refl),
        a,
        b,
        take_over w dp,
        take_over x de,
      )

-- where it is accepted no cause applies
pub accepted_none : (cs : List Cause) (n : ℕ) (y z : List ℕ) → accepted (end_of (answer cs n) y z) ≡ true → first cs ≡ none
accepted_none cs n y z a = unrefused Err (Ok n) cs (λ r q. true≢false (sym a ∙ rw q))

pub wrote_none : (cs : List Cause) (n : ℕ) (y z : List ℕ) (m : ℕ) (p e : List ℕ) → end_of (answer cs n) y z ≡ wrote m p e → first cs ≡ none
wrote_none cs n y z m p e a = accepted_none cs n y z (ap accepted a)

-- there is no room for the records of pt and et
abbrev pub full : PivotTable → EdgeTable → Dests → Bool
full pt et d = no_room (length pt * record_size) d.for_pivots || no_room (length et * record_size) d.for_edges

-- where a call that writes them ends: whether the edges are short, and whether there is no room
abbrev pub end_by : Bool → Bool → PivotTable → EdgeTable → End
end_by short full pt et = cond short (cond full (refused NoRoom) (wrote (length pt) (encode_all pt) (encode_edges et))) (refused TooLong)

-- where it ends if there is room
abbrev pub end_with : PivotTable → EdgeTable → End
end_with pt et = end_by (all short_edge et) false pt et

-- of its causes only the last, of what is written, may apply
pub write_ends : (pt : PivotTable) (et : EdgeTable) (d : Dests) → WFPivots pt ≡ true → WFEdges et pt ≡ true
    → (cs : List Cause) → first cs ≡ first (write_causes pt et d.for_pivots d.for_edges)
    → end_of (answer cs (length pt)) (leaves cs (encode_all pt) d.for_pivots) (leaves cs (encode_edges et) d.for_edges)
    ≡ end_by (all short_edge et) (full pt et d) pt et
write_ends pt et d w v cs h = go (all short_edge et) (full pt et d) refl refl
  where
    go : (s t : Bool) → all short_edge et ≡ s → full pt et d ≡ t
        → end_of (answer cs (length pt)) (leaves cs (encode_all pt) d.for_pivots) (leaves cs (encode_edges et) d.for_edges) ≡ end_by s t pt et
    go true true s f = ends_refused _ _ _ _ _ _ NoRoom (h ∙ unfold outcome in rw (s, f))
    go true false s f =
        let n = (edges_say et pt v).count in
        let m = length-encode_edges et s in
        ends_wrote _ _ _ _ _ _ (h ∙ unfold outcome in rw (s, f)) (sym (length-encode_all pt (wf_all_short pt w))) (omega arith)
    go false t s f = ends_refused _ _ _ _ _ _ TooLong (h ∙ unfold outcome in rw s)

-- short edges and room leave no cause
pub room_none : (pt : PivotTable) (et : EdgeTable) (d : Dests) → all short_edge et ≡ true → length pt * record_size ≤ length d.for_pivots
    → length et * record_size ≤ length d.for_edges → first (write_causes pt et d.for_pivots d.for_edges) ≡ none
unfolding outcome
room_none pt et d s f g =
    rw (s, le-ltb (length d.for_pivots) (length pt * record_size) f, le-ltb (length d.for_edges) (length et * record_size) g)

-- a table that is written in destinations no shorter than its bytes is its bytes
pub ends_as_lent : (p e : List ℕ) (d : Dests) → first (table_causes false false p e) ≡ none → Bytes p → Bytes e → NoShorter p e d
    → end_by (all short_edge (edges e)) (full (elements p) (edges e) d) (elements p) (edges e) ≡ wrote (length (elements p)) p e
ends_as_lent p e d h b c n =
    let f = le-ltb (length d.for_pivots) (length (elements p) * record_size) (omega (arith, n.pivots, table_whole false false p e h)) in
    let g = le-ltb (length d.for_edges) (length (edges e) * record_size) (omega (arith, n.edges, table_edges_whole false false p e h)) in
    rw (table_edges_short false false p e h, f, g, table_encode false false p e h b, table_encode_edges false false p e h c)
