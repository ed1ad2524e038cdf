-- What is asked of insertion holds: an accepted one leaves a table that translates and is cut as the old one, and it is refused for length where a cut at the key is.
use Rattle.std.specs.Prelude.{Ok, Err}
use mathlib.Core.Path.{◌≡◌, refl, sym, ap, subst, ◌∙◌}
use mathlib.Core.Bool.{Bool, true, false}
use mathlib.Core.List.{List}
use mathlib.Core.Option.{none, some}
use Prim.Native.Nat.{ℕ, ◌+◌, ◌*◌, ◌≤◌}
use native.Mathlib.Omega.{arith}
use borrow.Author.Tests.{not-false}
use lib.ListN.{length}
use Rattle.model.specs.declared.Refusal.TheVariants.{TooLong}
use Rattle.model.specs.keys.Key.{Key, Bytes}
use Rattle.model.specs.records.Record.{record_size, elements, edges, encode_all, encode_edges}
use Rattle.model.specs.tables.Tables.{PivotTable, EdgeTable, all, short_edge, WFPivots, WFEdges, BytesT, BoundedKey, Route}
use Rattle.model.specs.cuts.Sides.{inside}
use Rattle.model.specs.calls.Refusals.{first}
use Rattle.model.specs.calls.TableCalls.{table_causes, edge_slot_causes}
use Rattle.model.specs.calls.CutCalls.{cut_pivots, cut_edges}
use Rattle.model.specs.calls.InsertionCalls.{inserted_pivots, inserted_edges, new_pivot_causes, insert_causes}
use Rattle.model.specs.cuts.TwoOrders.{Dests, End, wrote, refused, accepted, TranslatedAlike}
use Rattle.model.specs.cuts.Inserted.{insert, CutAlike, Inserted, Kept, Taken, Inserts}
use Rattle.model.proofs.calls.Refusals.{passed, after, followed, none_here, none_before, none_after}
use Rattle.model.proofs.calls.TableCalls.{table_wf, table_wrong, table_edges, table_bytes}
use Rattle.model.proofs.calls.WrittenTables.{wf_table_causes, bytes-encode_all}
use Rattle.model.proofs.calls.Alike.{slot_first, alike, alike_outside}
use Rattle.model.proofs.calls.InsertionCalls.{insert_table, insert_strictly, insert_few, insert_key}
use Rattle.model.proofs.records.Records.{length-encode_all, length-encode_edges, elements-encode_all, edges-encode_edges}
use Rattle.model.proofs.tables.Routing.{wf_all_short}
use Rattle.model.proofs.tables.NewPivot.{strictly_inside}
use Rattle.model.proofs.cuts.CutEdges.{edges_say}
use Rattle.model.proofs.cuts.Ends.{ends_wrote, wrote_none, room_none}
use Rattle.model.proofs.cuts.LongInsertion.{long_as_cuts}
use Rattle.model.proofs.cuts.TakenInsertion.{takes, takes_short}
use Rattle.model.proofs.cuts.Insertion.{insert_length, Insertable, insert_wf, insert_edges_wf, insert_bytes, insert_inside, insert_split, insert_split_edges, insert_bounded, insert_preserved}

-- ---- an accepted insertion

module _ (p e : List ℕ) (k : Key) (b : Bytes p) (g : Bytes k) (h : first (new_pivot_causes p e k) ≡ none)
    (s : all short_edge (inserted_edges p e k) ≡ true) where
  -- the new pivots and edges
  abbrev pt : PivotTable
  pt = inserted_pivots p k

  abbrev et : EdgeTable
  et = inserted_edges p e k

  -- the table takes the key
  can : Insertable (elements p) (edges e) k
  can =
      let t = insert_table p e k h in
      record {
        wf = table_wf _ _ p e t;
        fits = table_edges _ _ p e t;
        bytes = table_bytes _ _ p e t b;
        key_is = g;
        size = insert_key p e k h;
        strictly = insert_strictly p e k h;
      }

  -- the new table is one
  new_wf : WFPivots pt ≡ true
  new_wf = insert_wf can

  new_fits : WFEdges et pt ≡ true
  new_fits = insert_edges_wf can

  new_bytes_lem : BytesT pt
  new_bytes_lem = insert_bytes can

  pivots_back : elements (encode_all pt) ≡ pt
  pivots_back = elements-encode_all pt (wf_all_short pt new_wf)

  edges_back : edges (encode_edges et) ≡ et
  edges_back = edges-encode_edges et s

  -- neither has one of the causes 1 to 4
  old_table : first (table_causes false false p e) ≡ none
  old_table = rw (table_wrong _ _ p e (insert_table p e k h)) at (insert_table p e k h)

  new_table : first (table_causes false false (encode_all pt) (encode_edges et)) ≡ none
  new_table = wf_table_causes pt et new_wf (insert_few p e k h) new_fits s false refl

  -- a key is bounded by both or by neither
  same_keys : (j : Key) → BoundedKey (elements (encode_all pt)) j ≡ BoundedKey (elements p) j
  same_keys j = rw pivots_back (insert_bounded can j)

  -- and is translated alike
  new_keys : (j : Key) → Bytes j → TranslatedAlike p e (encode_all pt) (encode_edges et) j
  new_keys j d = go (BoundedKey (elements p) j) refl
    where
      go : (t : Bool) → BoundedKey (elements p) j ≡ t → TranslatedAlike p e (encode_all pt) (encode_edges et) j
      go true v =
          alike p e (encode_all pt) (encode_edges et) j old_table new_table v (same_keys j ∙ v)
          (rw (pivots_back, edges_back) (insert_preserved can j d v))
      go false v = alike_outside p e (encode_all pt) (encode_edges et) j old_table new_table v (same_keys j ∙ v)

  -- the cuts at the key are of the same pivots and edges
  same_pivots : (left : Bool) → cut_pivots left (encode_all pt) k ≡ cut_pivots left p k
  same_pivots left = rw pivots_back (insert_split can left)

  same_edges : (left : Bool) → cut_edges left (encode_all pt) (encode_edges et) k ≡ cut_edges left p e k
  same_edges left = rw (pivots_back, edges_back) (insert_split_edges can left)

  same_slot : (left : Bool) → first (edge_slot_causes (encode_all pt) (encode_edges et) k (inside left (elements (encode_all pt)) k))
      ≡ first (edge_slot_causes p e k (inside left (elements p) k))
  same_slot left =
      let i = insert_inside can left in
      let j = strictly_inside (elements p) k can.wf (Route (elements p) k) (insert_strictly p e k h) left in
      slot_first (encode_all pt) (encode_edges et) k (inside left (elements (encode_all pt)) k) new_table (rw pivots_back i) ∙ sym (slot_first p e k (inside left (elements p) k) old_table j)

  -- so they are the same
  new_cuts : (left : Bool) → CutAlike left p e (encode_all pt) (encode_edges et) k
  new_cuts left dp de = (
    rw (same_pivots left, same_edges left) (followed _ _ _ _ _ (same_slot left)),
    rw (same_pivots left, same_edges left) (followed _ _ _ _ _ (same_slot left)),
    rw (same_pivots left, same_edges left) (followed _ _ _ _ _ (same_slot left)),
  )

  -- so it leaves what is asked
  pub leaves_inserted : Inserted p e k (length pt) (encode_all pt) (encode_edges et)
  leaves_inserted =
      record {
        table = sym (passed Err (Ok true) (Ok true) _ new_table refl);
        pivots = pivots_back;
        count = insert_length (elements p) k (Route (elements p) k) (omega (arith, (insert_strictly p e k h).slot));
        keys = new_keys;
        cuts = new_cuts;
      }

  -- at the heads of its destinations
  pub ends_inserted : (d : Dests) → first (insert_causes p e k d.for_pivots d.for_edges) ≡ none → insert k d p e ≡ wrote (length pt) (encode_all pt) (encode_edges et)
  ends_inserted d f =
      let n = (edges_say et pt new_fits).count in
      let l = length-encode_edges et s in
      ends_wrote _ _ _ _ _ _ f (sym (length-encode_all pt (wf_all_short pt new_wf))) (omega arith)

  -- where they have room
  pub room_accepted : (d : Dests) → (length (elements p) + 1) * record_size ≤ length d.for_pivots → length (elements p) * record_size ≤ length d.for_edges
      → accepted (insert k d p e) ≡ true
  room_accepted d r t =
      let n = (edges_say et pt new_fits).count in
      let l : length pt ≡ length (elements p) + 1 = leaves_inserted.count in
      let w = room_none pt et d s (omega arith) (omega arith) in
      ap accepted (ends_inserted d (sym (after some none _ (new_pivot_causes p e k) _ h (sym w))))

-- by its call: it ended with n pivots, in the records p' and e'
module _ (p e : List ℕ) (k : Key) (d : Dests) (n : ℕ) (p' e' : List ℕ) (a : insert k d p e ≡ wrote n p' e') where
  no_cause : first (insert_causes p e k d.for_pivots d.for_edges) ≡ none
  no_cause = wrote_none (insert_causes p e k d.for_pivots d.for_edges) (length (inserted_pivots p k)) _ _ n p' e' a

  was_new : first (new_pivot_causes p e k) ≡ none
  was_new = none_before (new_pivot_causes p e k) _ no_cause

  was_short : all short_edge (inserted_edges p e k) ≡ true
  was_short = not-false _ (none_here _ TooLong _ (none_after (new_pivot_causes p e k) _ no_cause))

  module _ (b : Bytes p) (g : Bytes k) where
    -- so it wrote the records of its pivots and edges
    was_written : wrote (length (inserted_pivots p k)) (encode_all (inserted_pivots p k)) (encode_edges (inserted_edges p e k)) ≡ wrote n p' e'
    was_written = sym (ends_inserted p e k b g was_new was_short d no_cause) ∙ a

    -- what it leaves is what is asked
    pub insert_leaves : Inserted p e k n p' e'
    insert_leaves = subst (Kept p e k) was_written (leaves_inserted p e k b g was_new was_short)

    -- its pivots are again bytes
    pub insert_leaves_bytes : Bytes p'
    insert_leaves_bytes =
        let w : encode_all (inserted_pivots p k) ≡ p' = let v = was_written in cc in
        rw (← w) (bytes-encode_all _ (wf_all_short _ (new_wf p e k b g was_new was_short)) (new_bytes_lem p e k b g was_new was_short))

    -- the pivots left by an insertion bound the keys that they bounded before
    pub insert_bounded_bytes : (j : Key) → BoundedKey (elements p') j ≡ BoundedKey (elements p) j
    insert_bounded_bytes j =
        rw (insert_leaves.pivots, ← pivots_back p e k b g was_new was_short) (same_keys p e k b g was_new was_short j)

-- ---- the claim

pub inserts : Inserts
inserts p e k d b g = (go (insert k d p e) refl, long_as_cuts p e k d, taken)
  where
    taken : Taken p e k d
    taken l r x y n m = room_accepted p e k b g (takes p e k l r x y n m) (takes_short p e k l r x y n m) d

    go : (x : End) → insert k d p e ≡ x → Kept p e k x
    go (refused r) a = tt
    go (wrote n p' e') a = insert_leaves p e k d n p' e' a b g
