-- Accepted cuts: what they leave can be lent to the next call, and translates its keys as the table does; and so do several cuts and insertions, one after the other.
use mathlib.Core.Path.{◌≡◌, refl, sym, ap, ◌∙◌}
use mathlib.Core.Bool.{Bool, true, false, true≢false}
use mathlib.Core.List.{List}
use mathlib.Core.Option.{none}
use Prim.Native.Nat.{ℕ}
use borrow.Author.Tests.{ltb-false, not-false}
use lib.ListN.{length}
use Rattle.model.specs.declared.Refusal.TheVariants.{OutOfRange, TooLong}
use Rattle.model.specs.keys.Key.{Key, Bytes, max_len, too_long}
use Rattle.model.specs.records.Record.{elements, edges, encode_all, encode_edges}
use Rattle.model.specs.tables.Tables.{all, short_edge, WFPivots, BoundedKey}
use Rattle.model.specs.cuts.Sides.{inside, Split}
use Rattle.model.specs.calls.Refusals.{first}
use Rattle.model.specs.calls.TableCalls.{table_causes}
use Rattle.model.specs.calls.CutCalls.{cut_pivots, cut_edges, cut_causes}
use Rattle.model.specs.calls.TableCalls.{edge_slot_causes}
use Rattle.model.specs.cuts.TwoOrders.{Dests, wrote, accepted, cut, TranslatedAlike}
use Rattle.model.specs.cuts.Inserted.{insert}
use Rattle.model.proofs.calls.Refusals.{none_here, none_before, none_after}
use Rattle.model.proofs.tables.Routing.{wf_all_short}
use Rattle.model.proofs.calls.TableCalls.{table_wrong, table_wf, table_bytes}
use Rattle.model.proofs.calls.WrittenTables.{bytes-encode_all}
use Rattle.model.proofs.records.Records.{edges-encode_edges}
use Rattle.model.proofs.cuts.Sides.{split_bounded, split_bytes}
use Rattle.model.proofs.cuts.Ends.{wrote_none}
use Rattle.model.proofs.cuts.Inserted.{insert_leaves, insert_leaves_bytes, insert_bounded_bytes}
use Rattle.model.proofs.cuts.OneCut.{Cuttable, pivots_back, cut_ends_with, cut_table, cut_alike}

module _ (left : Bool) (k : Key) (d : Dests) (p e : List ℕ) (n : ℕ) (p' e' : List ℕ) (a : cut left k d p e ≡ wrote n p' e') where
  -- no cause applies
  no_cause : first (cut_causes left p e k d.for_pivots d.for_edges) ≡ none
  no_cause = wrote_none (cut_causes left p e k d.for_pivots d.for_edges) (length (cut_pivots left p k)) _ _ n p' e' a

  -- so none of the table and the key
  pub no_slot_cause : first (edge_slot_causes p e k (inside left (elements p) k)) ≡ none
  no_slot_cause = none_before (edge_slot_causes p e k (inside left (elements p) k)) _ no_cause

  -- nor of the table
  no_table_cause : first (table_causes false (too_long k) p e) ≡ none
  no_table_cause = none_before (table_causes false (too_long k) p e) _ no_slot_cause

  -- the edges of the cut are short
  was_short : all short_edge (cut_edges left p e k) ≡ true
  was_short = not-false _ (none_here _ TooLong _ (none_after (edge_slot_causes p e k (inside left (elements p) k)) _ no_cause))

  module _ (b : Bytes p) (g : Bytes k) where
    -- the cut had what it needs
    was_cuttable : Cuttable left k p e
    was_cuttable =
        let t = table_wrong false (too_long k) p e no_table_cause in
        record {
          table = rw t at no_table_cause;
          bytes = table_bytes false (too_long k) p e no_table_cause b;
          size = ltb-false max_len (length k) t;
          key_is = g;
          here = not-false _ (none_here _ OutOfRange _ (none_after (table_causes false (too_long k) p e) _ no_slot_cause));
        }

    -- its table is well formed
    was_wf : WFPivots (elements p) ≡ true
    was_wf = table_wf false (too_long k) p e no_table_cause

    -- so it wrote the records of its pivots and edges
    was_written : wrote n p' e' ≡ wrote (length (cut_pivots left p k)) (encode_all (cut_pivots left p k)) (encode_edges (cut_edges left p e k))
    was_written =
        sym a ∙ cut_ends_with was_cuttable d (λ x. true≢false (sym (ap accepted a) ∙ ap accepted x)) ∙ rw was_short

    pub cut_wrote_pivots : p' ≡ encode_all (cut_pivots left p k)
    cut_wrote_pivots = let w = was_written in cc

    pub cut_wrote_edges : e' ≡ encode_edges (cut_edges left p e k)
    cut_wrote_edges = let w = was_written in cc

    -- the edges left are those of the cut
    pub cut_wrote_edge_table : edges e' ≡ cut_edges left p e k
    cut_wrote_edge_table = rw cut_wrote_edges (edges-encode_edges (cut_edges left p e k) was_short)

    -- the pivots left are those of the cut
    pub cut_wrote_elements : elements p' ≡ Split left (elements p) k
    cut_wrote_elements = rw cut_wrote_pivots (pivots_back was_cuttable)

    -- the count of the pivots left is the number answered
    pub cut_wrote_count : n ≡ length (elements p')
    cut_wrote_count = let w = was_written in rw cut_wrote_elements cc

    -- each key that they bound is bounded by the uncut table
    pub cut_bounded_bytes : (j : Key) → BoundedKey (elements p') j ≡ true → BoundedKey (elements p) j ≡ true
    cut_bounded_bytes j v =
        split_bounded (elements p) k was_wf left was_cuttable.here j (rw cut_wrote_elements at v)

    -- what a cut leaves is well formed again, in bytes, so that it can be lent to the next call
    pub cut_leaves_table : first (table_causes false false p' e') ≡ none
    cut_leaves_table = rw (cut_wrote_pivots, cut_wrote_edges) (cut_table was_cuttable was_short)

    -- its pivots are again bytes
    pub cut_leaves_bytes : Bytes p'
    cut_leaves_bytes =
        let w = rw cut_wrote_elements at (table_wf false false p' e' cut_leaves_table) in
        rw cut_wrote_pivots
        (bytes-encode_all (Split left (elements p) k) (wf_all_short _ w)
        (split_bytes (elements p) k was_wf was_cuttable.bytes g left was_cuttable.here))

    -- by what a cut leaves each key that it bounds is translated as by the uncut table, answer and bytes
    pub cut_preserved_bytes : (j : Key) → Bytes j → BoundedKey (elements p') j ≡ true → TranslatedAlike p e p' e' j
    cut_preserved_bytes j h v = rw (cut_wrote_pivots, cut_wrote_edges) (cut_alike was_cuttable was_short j h (rw cut_wrote_elements at v))

-- ---- several calls

-- cuts and insertions one after the other, each accepted and of what those before it left
pub data Changed (p e : List ℕ) : List ℕ → List ℕ → Type 0 where
  unchanged : Changed p e p e
  then_cut : {q f p' e' : List ℕ} → Changed p e q f → (left : Bool) (k : Key) (d : Dests) (n : ℕ) → Bytes k → cut left k d q f ≡ wrote n p' e' → Changed p e p' e'
  then_inserted : {q f p' e' : List ℕ} → Changed p e q f → (k : Key) (d : Dests) (n : ℕ) → Bytes k → insert k d q f ≡ wrote n p' e' → Changed p e p' e'

-- the pivots that they leave are bytes
changed_bytes : {p e p' e' : List ℕ} → Changed p e p' e' → Bytes p → Bytes p'
changed_bytes unchanged b = b
changed_bytes (then_cut c left k d n g a) b = cut_leaves_bytes left k d _ _ n _ _ a (changed_bytes c b) g
changed_bytes (then_inserted c k d n g a) b = insert_leaves_bytes _ _ k d n _ _ a (changed_bytes c b) g

-- what is translated as by q and f, which translate it as by p and e, is translated as by these
in_turn_lem : (p e q f p' e' : List ℕ) (j : Key) → TranslatedAlike p e q f j → TranslatedAlike q f p' e' j → TranslatedAlike p e p' e' j
in_turn_lem p e q f p' e' j before last x = ((last x).0 ∙ (before x).0, (last x).1 ∙ (before x).1)

-- by what cuts and insertions leave each key that it bounds is translated as by the old table, answer and bytes
pub changed_preserved : {p e p' e' : List ℕ} → Changed p e p' e' → Bytes p → (j : Key) → Bytes j → BoundedKey (elements p') j ≡ true
    → TranslatedAlike p e p' e' j
changed_preserved unchanged b j h v = λ x. (refl, refl)
changed_preserved (then_cut c left k d n g a) b j h v =
    let bytes = changed_bytes c b in
    in_turn_lem _ _ _ _ _ _ j (changed_preserved c b j h (cut_bounded_bytes left k d _ _ n _ _ a bytes g j v))
    (cut_preserved_bytes left k d _ _ n _ _ a bytes g j h v)
changed_preserved (then_inserted c k d n g a) b j h v =
    let bytes = changed_bytes c b in
    in_turn_lem _ _ _ _ _ _ j (changed_preserved c b j h (sym (insert_bounded_bytes _ _ k d n _ _ a bytes g j) ∙ v))
    ((insert_leaves _ _ k d n _ _ a bytes g).keys j h)
