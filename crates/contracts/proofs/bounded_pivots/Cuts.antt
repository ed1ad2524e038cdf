-- BoundedPivotsLib, lines 315 to 330 and 357 to 372: the cuts.
use Rattle.std.specs.Prelude.{Ok, Err}
use mathlib.Core.Path.{◌≡◌, refl, ◌∙◌}
use mathlib.Core.Bool.{Bool, true, false}
use mathlib.Core.List.{List}
use Prim.Native.Nat.{ℕ, ◌+◌, ◌*◌, ◌≤◌, ◌<◌}
use lib.ListN.{length}
use Rattle.model.specs.declared.Refusal.TheVariants.{Shape, OutOfRange}
use Rattle.model.specs.keys.Key.{Key, max_len, too_long}
use Rattle.model.specs.records.Record.{no_edge, record_size, elements, encode_all, encode_edges}
use Rattle.model.specs.tables.Tables.{PivotTable, EdgeTable, edge_at, max_pivots, all, short_edge, WFPivots, WFEdges, BoundedKey, ValidLeftCutOffKey}
use Rattle.model.specs.cuts.Cuts.{SplitLeft, SplitRight, SplitLeftEdges, SplitRightEdges}
use Rattle.model.specs.cuts.Sides.{inside, Split, SplitEdges}
use Rattle.model.specs.calls.Refusals.{over}
use Rattle.model.specs.calls.TableCalls.{not_edge_count, pivot_causes, table_causes, edge_slot_causes}
use Rattle.model.specs.calls.CutCalls.{cut_causes, cut_answer, cut_leaves_pivots}
use Rattle.model.proofs.Lists.{inside_all}
use Rattle.model.proofs.calls.Refusals.{or_right, not_fails}
use Rattle.model.proofs.cuts.SplitEdges.{no_edges_fit, no_edges_short}
use Rattle.model.proofs.cuts.Cuts.{split_left_wf, split_right_wf}
use Rattle.contracts.specs.Refuses.{RefusesAt, Refuses}
use Rattle.contracts.proofs.Refusing.{refuses_at, too_many, more_refused, call_refuses, table_pivots_refused}
use Rattle.contracts.proofs.Lent.{accepted, pivots_read_lem}
use Rattle.contracts.proofs.CutsLent.{cut_lent}

-- ---- either cut, of the pivots p and the edges e at the key k

module _ (left : Bool) (p e : List ℕ) (k : Key) (dp de : List ℕ) where
  cut_count : max_pivots < length (elements p) → RefusesAt Err (cut_causes left p e k dp de) 0 Shape (cut_answer left p e k dp de)
  unfolding table_causes pivot_causes
  cut_count h = refuses_at _ _ (cut_causes left p e k dp de) 0 _ _ _ refl (or_right (not_edge_count p e) _ (too_many p h))

  cut_pivots_lem : WFPivots (elements p) ≡ false → Refuses Err 3 (cut_answer left p e k dp de)
  cut_pivots_lem h =
      call_refuses _ _ 3 _ (more_refused 3 (edge_slot_causes p e k (inside left (elements p) k)) _ (more_refused 3 (table_causes false (too_long k) p e) _ (table_pivots_refused _ _ p e h)))

  cut_key : inside left (elements p) k ≡ false → RefusesAt Err (cut_causes left p e k dp de) 4 OutOfRange (cut_answer left p e k dp de)
  unfolding table_causes pivot_causes
  cut_key h = refuses_at _ _ (cut_causes left p e k dp de) 4 _ _ _ refl (not_fails _ h)

-- lent the records of a table with edges et and destinations that hold what is cut
module _ (pt : PivotTable) (et : EdgeTable) (k : Key) (w : WFPivots pt ≡ true) (m : length pt ≤ max_pivots) (x : WFEdges et pt ≡ true) (s : all short_edge et ≡ true)
    (l : length k ≤ max_len) (left : Bool) (i : inside left pt k ≡ true) (f : all short_edge (SplitEdges left et pt k) ≡ true) (dp de : List ℕ)
    (r : length (Split left pt k) * record_size ≤ length dp) (t : length (SplitEdges left et pt k) * record_size ≤ length de) where
  cut_written : (cut_answer left (encode_all pt) (encode_edges et) k dp de ≡ Ok (length (Split left pt k)))
      × (cut_leaves_pivots left (encode_all pt) (encode_edges et) k dp de ≡ over (encode_all (Split left pt k)) dp)
  cut_written =
      let c = cut_lent pt et w m x s left k dp de l i f r t in
      let b = pivots_read_lem pt w in (
        accepted _ _ (cut_causes left (encode_all pt) (encode_edges et) k dp de) c ∙ rw b,
        accepted _ _ (cut_causes left (encode_all pt) (encode_edges et) k dp de) c ∙ rw b,
      )

-- a cut of pivots without edges, "no edge" in each slot, is accepted and leaves the cut pivots
module _ (pt : PivotTable) (et : EdgeTable) (k : Key) (w : WFPivots pt ≡ true) (m : length pt ≤ max_pivots) (n : length et + 1 ≡ length pt) (g : (i : ℕ) → edge_at et i ≡ no_edge)
    (l : length k ≤ max_len) (left : Bool) (i : inside left pt k ≡ true) (dp de : List ℕ)
    (r : length (Split left pt k) * record_size ≤ length dp) (t : length (SplitEdges left et pt k) * record_size ≤ length de) where
  alone_written : (cut_answer left (encode_all pt) (encode_edges et) k dp de ≡ Ok (length (Split left pt k)))
      × (cut_leaves_pivots left (encode_all pt) (encode_edges et) k dp de ≡ over (encode_all (Split left pt k)) dp)
  alone_written =
      cut_written pt et k w m (no_edges_fit pt et n g) (inside_all short_edge et no_edge (λ j _. rw (g j))) l left i (no_edges_short left pt et k g) dp de r t

-- ---- the left cut

-- ensures WFPivots(ret)
pub bounded_pivots_318 : (pt : PivotTable) (k : Key) → WFPivots pt ≡ true → ValidLeftCutOffKey pt k ≡ true → length k ≤ max_len → WFPivots (SplitLeft pt k) ≡ true
bounded_pivots_318 pt k w v l = split_left_wf pt k w v l

module _ (p e : List ℕ) (k : Key) (dp de : List ℕ) where
  -- requires |pt| < 0x4000_0000_0000_0000
  pub bounded_pivots_326 : max_pivots < length (elements p) → RefusesAt Err (cut_causes true p e k dp de) 0 Shape (cut_answer true p e k dp de)
  bounded_pivots_326 = cut_count true p e k dp de

  -- requires WFPivots(pt)
  pub bounded_pivots_327 : WFPivots (elements p) ≡ false → Refuses Err 3 (cut_answer true p e k dp de)
  bounded_pivots_327 = cut_pivots_lem true p e k dp de

  -- requires ValidLeftCutOffKey(pt, pivot)
  pub bounded_pivots_328 : ValidLeftCutOffKey (elements p) k ≡ false → RefusesAt Err (cut_causes true p e k dp de) 4 OutOfRange (cut_answer true p e k dp de)
  bounded_pivots_328 = cut_key true p e k dp de

-- ensures ret == SplitLeft(pt, pivot)
-- of pivots alone: with "no edge" in each slot
pub bounded_pivots_330 : (pt : PivotTable) (et : EdgeTable) (k : Key) (dp de : List ℕ) → WFPivots pt ≡ true → length pt ≤ max_pivots
    → length et + 1 ≡ length pt → ((i : ℕ) → edge_at et i ≡ no_edge) → length k ≤ max_len → ValidLeftCutOffKey pt k ≡ true
    → length (SplitLeft pt k) * record_size ≤ length dp → length (SplitLeftEdges et pt k) * record_size ≤ length de
    → (cut_answer true (encode_all pt) (encode_edges et) k dp de ≡ Ok (length (SplitLeft pt k)))
    × (cut_leaves_pivots true (encode_all pt) (encode_edges et) k dp de ≡ over (encode_all (SplitLeft pt k)) dp)
bounded_pivots_330 pt et k dp de w m n g l i r t = alone_written pt et k w m n g l true i dp de r t

-- ensures ret == SplitLeft(pt, pivot)
-- with edges, where those of the cut have at most 64 bytes
pub bounded_pivots_330b : (pt : PivotTable) (et : EdgeTable) (k : Key) (dp de : List ℕ) → WFPivots pt ≡ true → length pt ≤ max_pivots
    → WFEdges et pt ≡ true → all short_edge et ≡ true → length k ≤ max_len → ValidLeftCutOffKey pt k ≡ true → all short_edge (SplitLeftEdges et pt k) ≡ true
    → length (SplitLeft pt k) * record_size ≤ length dp → length (SplitLeftEdges et pt k) * record_size ≤ length de
    → (cut_answer true (encode_all pt) (encode_edges et) k dp de ≡ Ok (length (SplitLeft pt k)))
    × (cut_leaves_pivots true (encode_all pt) (encode_edges et) k dp de ≡ over (encode_all (SplitLeft pt k)) dp)
bounded_pivots_330b pt et k dp de w m x s l i f r t = cut_written pt et k w m x s l true i f dp de r t

-- ---- the right cut

-- ensures WFPivots(ret)
pub bounded_pivots_360 : (pt : PivotTable) (k : Key) → WFPivots pt ≡ true → BoundedKey pt k ≡ true → length k ≤ max_len → WFPivots (SplitRight pt k) ≡ true
bounded_pivots_360 pt k w b l = split_right_wf pt k w b l

module _ (p e : List ℕ) (k : Key) (dp de : List ℕ) where
  -- requires |pt| < 0x4000_0000_0000_0000
  pub bounded_pivots_368 : max_pivots < length (elements p) → RefusesAt Err (cut_causes false p e k dp de) 0 Shape (cut_answer false p e k dp de)
  bounded_pivots_368 = cut_count false p e k dp de

  -- requires WFPivots(pt)
  pub bounded_pivots_369 : WFPivots (elements p) ≡ false → Refuses Err 3 (cut_answer false p e k dp de)
  bounded_pivots_369 = cut_pivots_lem false p e k dp de

  -- requires BoundedKey(pt, pivot)
  pub bounded_pivots_370 : BoundedKey (elements p) k ≡ false → RefusesAt Err (cut_causes false p e k dp de) 4 OutOfRange (cut_answer false p e k dp de)
  bounded_pivots_370 = cut_key false p e k dp de

-- ensures ret == SplitRight(pt, pivot)
-- of pivots alone: with "no edge" in each slot
pub bounded_pivots_372 : (pt : PivotTable) (et : EdgeTable) (k : Key) (dp de : List ℕ) → WFPivots pt ≡ true → length pt ≤ max_pivots
    → length et + 1 ≡ length pt → ((i : ℕ) → edge_at et i ≡ no_edge) → length k ≤ max_len → BoundedKey pt k ≡ true
    → length (SplitRight pt k) * record_size ≤ length dp → length (SplitRightEdges et pt k) * record_size ≤ length de
    → (cut_answer false (encode_all pt) (encode_edges et) k dp de ≡ Ok (length (SplitRight pt k)))
    × (cut_leaves_pivots false (encode_all pt) (encode_edges et) k dp de ≡ over (encode_all (SplitRight pt k)) dp)
bounded_pivots_372 pt et k dp de w m n g l i r t = alone_written pt et k w m n g l false i dp de r t

-- ensures ret == SplitRight(pt, pivot)
-- with edges, where those of the cut have at most 64 bytes
pub bounded_pivots_372b : (pt : PivotTable) (et : EdgeTable) (k : Key) (dp de : List ℕ) → WFPivots pt ≡ true → length pt ≤ max_pivots
    → WFEdges et pt ≡ true → all short_edge et ≡ true → length k ≤ max_len → BoundedKey pt k ≡ true → all short_edge (SplitRightEdges et pt k) ≡ true
    → length (SplitRight pt k) * record_size ≤ length dp → length (SplitRightEdges et pt k) * record_size ≤ length de
    → (cut_answer false (encode_all pt) (encode_edges et) k dp de ≡ Ok (length (SplitRight pt k)))
    × (cut_leaves_pivots false (encode_all pt) (encode_edges et) k dp de ≡ over (encode_all (SplitRight pt k)) dp)
bounded_pivots_372b pt et k dp de w m x s l i f r t = cut_written pt et k w m x s l false i f dp de r t
