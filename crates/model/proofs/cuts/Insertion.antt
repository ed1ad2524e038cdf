-- Insertion of a pivot: what it makes is the left and the right cut at the key together. So it is well formed, its cuts at the key are those of the table, and it translates each key as the table does.
use mathlib.Core.Path.{◌≡◌, refl, sym, ◌∙◌}
use mathlib.Core.Bool.{Bool, true, false, not}
use mathlib.Core.List.{◌++◌, append_assoc}
use Prim.Native.Nat.{ℕ, ◌+◌, ◌≤◌}
use native.Mathlib.Omega.{arith}
use lib.ListN.{length, take, drop, length-append, length-drop}
use lib.Seq.{length-take-le}
use Rattle.model.specs.keys.Key.{Key, Bytes, max_len}
use Rattle.model.specs.keys.Order.{key, lte}
use Rattle.model.specs.tables.Tables.{PivotTable, EdgeTable, pivot_at, last_pivot, WFPivots, WFEdges, BytesT, BoundedKey, Route}
use Rattle.model.specs.cuts.Cuts.{SplitLeft, SplitRight, SplitLeftEdges, SplitRightEdges}
use Rattle.model.specs.cuts.Sides.{inside, cutoff, Split, SplitEdges}
use Rattle.model.specs.cuts.Insertion.{InsertPivot, InsertPivotEdges}
use Rattle.model.specs.translation.Translation.{TranslateKey}
use Rattle.model.proofs.tables.NewPivot.{Strictly, strictly_cutoff, strictly_inside}
use Rattle.model.proofs.cuts.Cuts.{split_left_first, split_left_bounded, split_right_last, split_right_bounded}
use Rattle.model.proofs.cuts.Sides.{split_wf, split_bytes, split_edges_wf, split_preserved}
use Rattle.model.proofs.cuts.Meeting.{Meeting, half, whole_wf, whole_edges_wf, whole_bytes, whole_inside, whole_split, whole_split_edges}

-- with the key there is one pivot more
pub insert_length : (pt : PivotTable) (k : Key) (c : ℕ) → c + 1 ≤ length pt → length (InsertPivot pt (c + 1) k) ≡ length pt + 1
unfolding InsertPivot
insert_length pt k c h = rw (length-append, length-take-le (c + 1) pt h, length-drop (c + 1) pt) (omega arith)

-- what an insertion needs, but for the length of its edges and the limit of pivots
pub record Insertable (pt : PivotTable) (et : EdgeTable) (k : Key) : Type 0 where
  pub wf : WFPivots pt ≡ true
  pub fits : WFEdges et pt ≡ true
  pub bytes : BytesT pt
  pub key_is : Bytes k
  pub size : length k ≤ max_len
  pub strictly : Strictly pt (Route pt k) k

module _ {pt : PivotTable} {et : EdgeTable} {k : Key} (q : Insertable pt et k) where
  -- the slot of the key
  abbrev c : ℕ
  c = Route pt k

  -- the table with the key
  abbrev new : PivotTable
  new = InsertPivot pt (c + 1) k

  -- its edges
  abbrev new_edges : EdgeTable
  new_edges = InsertPivotEdges et pt k

  -- the table can be cut at the key
  here : (left : Bool) → inside left pt k ≡ true
  here = strictly_inside pt k q.wf c q.strictly

  -- in that slot
  slot : (left : Bool) → cutoff left pt k ≡ c
  slot = strictly_cutoff pt k q.wf c q.strictly

  -- the cuts at the key, by the slot
  splits : (left : Bool) → Split left pt k ≡ half left (take (c + 1) pt) k (drop (c + 1) pt)
  unfolding SplitLeft SplitRight
  splits true = rw (slot true)
  splits false = rw (slot false)

  -- the new edges are those of the cuts
  pub insert_edges : new_edges ≡ SplitLeftEdges et pt k ++ SplitRightEdges et pt k
  unfolding InsertPivotEdges SplitLeftEdges SplitRightEdges
  insert_edges = rw (append_assoc, slot true, slot false)

  -- the cuts meet at the key
  meets : Meeting (take (c + 1) pt) k (drop (c + 1) pt) (SplitLeftEdges et pt k) (SplitRightEdges et pt k)
  meets =
      record {
        first_wf = rw (splits true) at (split_wf pt k q.wf true (here true) q.size);
        second_wf = rw (splits false) at (split_wf pt k q.wf false (here false) q.size);
        first_edges = rw (splits true) at (split_edges_wf pt k q.wf q.bytes q.key_is et q.fits true (here true));
        second_edges = rw (splits false) at (split_edges_wf pt k q.wf q.bytes q.key_is et q.fits false (here false));
      }

  -- the new table is well formed
  pub insert_wf : WFPivots new ≡ true
  unfolding InsertPivot
  insert_wf = whole_wf meets

  -- the new table's edges are well formed
  pub insert_edges_wf : WFEdges new_edges new ≡ true
  unfolding InsertPivot
  insert_edges_wf = rw insert_edges (whole_edges_wf meets)

  -- it is of bytes
  pub insert_bytes : BytesT new
  unfolding InsertPivot
  insert_bytes =
      whole_bytes meets (rw (splits true) at (split_bytes pt k q.wf q.bytes q.key_is true (here true)))
      (rw (splits false) at (split_bytes pt k q.wf q.bytes q.key_is false (here false)))

  -- it can be cut at the key
  pub insert_inside : (left : Bool) → inside left new k ≡ true
  unfolding InsertPivot
  insert_inside = whole_inside meets

  -- its cuts there are those of the table
  pub insert_split : (left : Bool) → Split left new k ≡ Split left pt k
  unfolding InsertPivot
  insert_split left = whole_split meets left ∙ sym (splits left)

  -- with their edges
  pub insert_split_edges : (left : Bool) → SplitEdges left new_edges new k ≡ SplitEdges left et pt k
  unfolding InsertPivot
  insert_split_edges true = rw insert_edges (whole_split_edges meets true)
  insert_split_edges false = rw insert_edges (whole_split_edges meets false)

  -- it begins and ends as before
  pub insert_first : pivot_at new 0 ≡ pivot_at pt 0
  insert_first = sym (split_left_first new k insert_wf (insert_inside true)) ∙ rw (insert_split true) (split_left_first pt k q.wf (here true))

  pub insert_last : last_pivot new ≡ last_pivot pt
  insert_last = sym (split_right_last new k insert_wf (insert_inside false)) ∙ rw (insert_split false) (split_right_last pt k q.wf (here false))

  module _ (j : Key) where
    -- the new table bounds the keys that it bounded before
    pub insert_bounded : BoundedKey new j ≡ BoundedKey pt j
    unfolding BoundedKey
    insert_bounded = rw (insert_first, insert_last)

    -- each of them is bounded by one of the cuts
    side : BoundedKey pt j ≡ true → (left : Bool) → lte (key k) (key j) ≡ not left → BoundedKey (Split left pt k) j ≡ true
    side h true e = split_left_bounded pt k q.wf (here true) j ∙ rw (h, e)
    side h false e = split_right_bounded pt k q.wf (here false) j ∙ rw (h, e)

    -- by the new table each key is translated as before
    pub insert_preserved : Bytes j → BoundedKey pt j ≡ true → TranslateKey new new_edges j ≡ TranslateKey pt et j
    insert_preserved d h = go (lte (key k) (key j)) refl
      where
        by : (left : Bool) → BoundedKey (Split left pt k) j ≡ true → TranslateKey new new_edges j ≡ TranslateKey pt et j
        by left u =
            sym (split_preserved new k insert_wf insert_bytes q.key_is new_edges insert_edges_wf left (insert_inside left) j d (rw (insert_split left) u))
            ∙ rw (insert_split left, insert_split_edges left) (split_preserved pt k q.wf q.bytes q.key_is et q.fits left (here left) j d u)

        go : (t : Bool) → lte (key k) (key j) ≡ t → TranslateKey new new_edges j ≡ TranslateKey pt et j
        go true e = by false (side h false e)
        go false e = by true (side h true e)
