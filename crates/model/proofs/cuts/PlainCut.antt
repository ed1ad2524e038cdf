-- The two orders of cutting at l and r: each is accepted, and ends in the plain cut.
use mathlib.Core.Path.{◌≡◌, ◌∙◌}
use mathlib.Core.Bool.{true}
use Prim.Native.Nat.{◌+◌, ◌≤◌}
use native.Mathlib.Omega.{arith}
use borrow.Author.Tests.{le-leb}
use lib.ListN.{length}
use Rattle.model.specs.keys.Key.{Key, Bytes, max_len}
use Rattle.model.specs.keys.Order.{key, lte, lt}
use Rattle.model.specs.tables.Tables.{PivotTable, EdgeTable, NumBuckets, pivot_at, last_pivot, all, short_edge, WFPivots, WFEdges, BytesT}
use Rattle.model.specs.tables.Tables.{BoundedKey, ValidLeftCutOffKey, CutoffForLeft}
use Rattle.model.specs.cuts.Cuts.{SplitLeft, SplitRight, plain_cut, SplitLeftEdges, SplitRightEdges, plain_cut_edges}
use Rattle.model.specs.translation.Translation.{TranslateKey}
use Rattle.model.proofs.keys.Order.{lte_refl, lt_trans_lte, lte_trans_lt}
use Rattle.model.proofs.cuts.Between.{bytes_at, Within}
use Rattle.model.proofs.tables.Slots.{Table, wf_says, says_wf}
use Rattle.model.proofs.cuts.Ranges.{cut_to, Spans, cut_cut, cut_bounded, cut_bytes_lem, cut_wf}
use Rattle.model.proofs.cuts.Cuts.{left_spans, left_slot, left_is_cut, left_table, left_length}
use Rattle.model.proofs.cuts.Cuts.{right_spans, right_slot, right_is_cut, right_table, right_length}
use Rattle.model.proofs.cuts.Cuts.{split_left_first, split_left_last, split_right_first, split_right_last}
use Rattle.model.proofs.cuts.CutEdges.{edges_say, say_edges, cut_edges_to, cut_cut_edges, cut_fit}
use Rattle.model.proofs.cuts.SplitEdges.{left_edges_cut, left_count, left_short, left_all_short}
use Rattle.model.proofs.cuts.SplitEdges.{right_edges_cut, right_count, right_short, right_all_short}
use Rattle.model.proofs.cuts.Preserved.{cut_preserved}

module _ (pt : PivotTable) (l r : Key) (w : WFPivots pt ≡ true) (h : lt (key l) (key r) ≡ true)
    (f : lte (pivot_at pt 0) (key l) ≡ true) (g : lte (key r) (last_pivot pt) ≡ true) where
  t : Table pt
  t = (wf_says pt w).table

  -- ---- acceptance

  -- the right cut at l is accepted
  pub right_accepted : BoundedKey pt l ≡ true
  unfolding BoundedKey
  right_accepted = rw f (lt_trans_lte (key l) (key r) (last_pivot pt) h g)

  -- after the right cut at l the left cut at r is accepted
  pub left_after_right : ValidLeftCutOffKey (SplitRight pt l) r ≡ true
  unfolding ValidLeftCutOffKey
  left_after_right = rw (split_right_first pt l w right_accepted, split_right_last pt l w right_accepted, h) g

  -- the left cut at r is accepted
  pub left_accepted : ValidLeftCutOffKey pt r ≡ true
  unfolding ValidLeftCutOffKey
  left_accepted = rw (lte_trans_lt (pivot_at pt 0) (key l) (key r) f h) g

  -- after the left cut at r the right cut at l is accepted
  pub right_after_left : BoundedKey (SplitLeft pt r) l ≡ true
  unfolding BoundedKey
  right_after_left = rw (split_left_first pt r w left_accepted, split_left_last pt r w left_accepted, f) h

  -- ---- pivots

  -- what each cut leaves to the other rises
  right_first : Table (SplitRight pt l)
  right_first = right_table t l right_accepted

  left_first : Table (SplitLeft pt r)
  left_first = left_table t r left_accepted

  -- the range from l to r lies in what each keeps, and in the table
  in_right : Within (key l) (last_pivot pt) (key l) (key r)
  in_right = record { after = lte_refl (key l); before = g }

  in_left : Within (pivot_at pt 0) (key r) (key l) (key r)
  in_left = record { after = f; before = lte_refl (key r) }

  plain_spans : Spans pt (key l) (key r)
  plain_spans = record { table = t; from = f; rises = h; upto = g }

  -- the right cut and then the left one make the plain cut
  pub right_left : SplitLeft (SplitRight pt l) r ≡ plain_cut pt l r
  unfolding plain_cut cut_to
  right_left =
      left_is_cut right_first r left_after_right
      ∙ rw (split_right_first pt l w right_accepted, right_is_cut t l right_accepted)
      (cut_cut pt (key l) (last_pivot pt) (key l) (key r) in_right)

  -- the left cut and then the right one make the plain cut
  pub left_right : SplitRight (SplitLeft pt r) l ≡ plain_cut pt l r
  unfolding plain_cut cut_to
  left_right =
      right_is_cut left_first l right_after_left
      ∙ rw (split_left_last pt r w left_accepted, left_is_cut t r left_accepted)
      (cut_cut pt (pivot_at pt 0) (key r) (key l) (key r) in_left)

  -- the plain cut is well formed
  pub plain_wf : length l ≤ max_len → length r ≤ max_len → WFPivots (plain_cut pt l r) ≡ true
  unfolding plain_cut cut_to
  plain_wf m n =
      says_wf (cut_to pt (key l) (key r))
      (cut_wf plain_spans (wf_says pt w) (le-leb (length l) max_len m) (le-leb (length r) max_len n))

  -- it has no more pivots than the table
  pub plain_most : length (plain_cut pt l r) ≤ length pt
  plain_most =
      let s = (left_slot right_first r left_after_right).slot in
      rw (← right_left) (omega (arith, right_length t l right_accepted, left_length right_first r left_after_right))

  module _ (b : BytesT pt) (c : Bytes l) (d : Bytes r) where
    -- it is of bytes
    pub plain_bytes : BytesT (plain_cut pt l r)
    unfolding plain_cut cut_to
    plain_bytes = cut_bytes_lem pt (key l) (key r) b c d

    -- ---- edges

    module _ (et : EdgeTable) (x : WFEdges et pt ≡ true) where
      -- there is an edge for each slot
      n : length et + 1 ≡ length pt
      n = (edges_say et pt x).count

      -- so it is after each cut
      right_n : length (SplitRightEdges et pt l) + 1 ≡ length (SplitRight pt l)
      right_n = right_count et t n l right_accepted

      left_n : length (SplitLeftEdges et pt r) + 1 ≡ length (SplitLeft pt r)
      left_n = left_count et t n r left_accepted

      -- the edges of the right cut and then the left one are those of the plain cut
      pub right_left_edges : SplitLeftEdges (SplitRightEdges et pt l) (SplitRight pt l) r ≡ plain_cut_edges pt et l r
      unfolding plain_cut_edges cut_edges_to
      right_left_edges =
          left_edges_cut (SplitRightEdges et pt l) right_first right_n r left_after_right
          ∙ rw (split_right_first pt l w right_accepted, right_edges_cut et t n l right_accepted, right_is_cut t l right_accepted)
          (cut_cut_edges (right_spans t l right_accepted) b c (bytes_at pt (NumBuckets pt) b) et (key l) (key r) in_right h c d)

      -- the edges of the left cut and then the right one are those of the plain cut
      pub left_right_edges : SplitRightEdges (SplitLeftEdges et pt r) (SplitLeft pt r) l ≡ plain_cut_edges pt et l r
      unfolding plain_cut_edges cut_edges_to
      left_right_edges =
          right_edges_cut (SplitLeftEdges et pt r) left_first left_n l right_after_left
          ∙ rw (split_left_last pt r w left_accepted, left_edges_cut et t n r left_accepted, left_is_cut t r left_accepted)
          (cut_cut_edges (left_spans t r left_accepted) b (bytes_at pt 0 b) d et (key l) (key r) in_left h c d)

      -- the edges of the plain cut fit
      pub plain_edges_wf : WFEdges (plain_cut_edges pt et l r) (plain_cut pt l r) ≡ true
      unfolding plain_cut cut_to plain_cut_edges cut_edges_to
      plain_edges_wf =
          say_edges (cut_edges_to pt et (key l) (key r)) (cut_to pt (key l) (key r)) (cut_fit plain_spans b c d et (edges_say et pt x))

      -- the plain cut translates its keys as the table does
      pub plain_preserved : (k : Key) → Bytes k → lte (key l) (key k) ≡ true → lt (key k) (key r) ≡ true
          → TranslateKey (plain_cut pt l r) (plain_cut_edges pt et l r) k ≡ TranslateKey pt et k
      unfolding plain_cut cut_to plain_cut_edges cut_edges_to
      plain_preserved k e u v = cut_preserved et plain_spans b c d k e (rw (cut_bounded pt (key l) (key r) k, u) v)

      module _ (p : all short_edge (plain_cut_edges pt et l r) ≡ true) (q : all short_edge et ≡ true) where
        -- where the edges of the plain cut and of the table are short, so are those of the right cut
        pub right_edges_short : all short_edge (SplitRightEdges et pt l) ≡ true
        right_edges_short =
            let s = (left_slot right_first r left_after_right).slot in
            right_all_short pt et l q
            (left_short (SplitRight pt l) (SplitRightEdges et pt l) r (omega (arith, right_n)) (rw right_left_edges p) 0 (omega arith))

        -- where the edges of the plain cut and of the table are short, those of the left cut are short
        pub left_edges_short : all short_edge (SplitLeftEdges et pt r) ≡ true
        left_edges_short =
            let s = (right_slot left_first l right_after_left).slot in
            let i = left_length t r left_accepted in
            left_all_short pt et r (omega (arith, n, (left_slot t r left_accepted).slot)) q
            (right_short (SplitLeft pt r) (SplitLeftEdges et pt r) l (rw left_right_edges p) (CutoffForLeft pt r) (omega arith))
