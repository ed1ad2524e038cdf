-- Two tables that meet, put together: they are a table, its cuts at the meeting pivot are the two, and each of its keys is a key of one of them and is translated as there.
use mathlib.Core.Path.{◌≡◌, refl, sym, ap, subst, ◌∙◌}
use mathlib.Core.Bool.{Bool, true, false, cond, ◌&&◌}
use mathlib.Core.List.{[], ◌∷◌, ◌++◌, append_assoc}
use Prim.Native.Nat.{ℕ, ◌+◌, ◌-◌, ◌≤◌, ◌<◌}
use native.Mathlib.Numerals.{add-one}
use native.Mathlib.Omega.{arith}
use lib.ListN.{length, take, drop, length-append, length-drop, take-append-drop, drop_of_length-le}
use lib.Seq.{drop-cons}
use Rattle.model.specs.keys.Key.{Key, Bytes}
use Rattle.model.specs.keys.Order.{key, max, lte, lt}
use Rattle.model.specs.tables.Tables.{PivotTable, EdgeTable, pivot_at, last_pivot, WFPivots, WFEdges, BytesT, BoundedKey}
use Rattle.model.specs.cuts.Sides.{inside, Split, SplitEdges}
use Rattle.model.specs.cuts.Join.{JoinPivots, JoinEdges}
use Rattle.model.specs.translation.Translation.{TranslateKey}
use Rattle.model.proofs.tables.Routing.{wf_count}
use Rattle.model.proofs.cuts.Cuts.{split_left_bounded, split_right_bounded}
use Rattle.model.proofs.cuts.Sides.{split_preserved}
use Rattle.model.proofs.cuts.Meeting.{Meeting, half, whole_wf, whole_edges_wf, whole_bytes, whole_inside, whole_split, whole_split_edges}

-- a table is what comes before a place, the pivot there, and what comes behind
pub around : (pt : PivotTable) (i : ℕ) → i < length pt → take i pt ++ (pivot_at pt i ∷ drop (i + 1) pt) ≡ pt
around pt i h = rw (add-one, ← drop-cons pt i max h) (take-append-drop i pt)

-- it ends with its last pivot
ends_with : (pt : PivotTable) → 1 ≤ length pt → take (length pt - 1) pt ++ (last_pivot pt ∷ []) ≡ pt
ends_with pt h =
    let m : length pt ≤ length pt - 1 + 1 = omega arith in
    let n : drop (length pt - 1 + 1) pt ≡ [] = drop_of_length-le pt m in
    rw n at (around pt (length pt - 1) (omega arith))

-- a table begins with its first pivot
begins_with : (pt : PivotTable) → 1 ≤ length pt → pivot_at pt 0 ∷ drop 1 pt ≡ pt
begins_with [] h = absurd (omega arith)
begins_with (p ∷ pt) h = refl

-- joined they have one pivot fewer
pub join_count : (pt qt : PivotTable) → 1 ≤ length qt → length (JoinPivots pt qt) + 1 ≡ length pt + length qt
unfolding JoinPivots
join_count pt qt h = rw (length-append, length-drop) (omega arith)

-- two tables, the first of which ends with the key that the second begins with
pub record Joinable (pt qt : PivotTable) (et ft : EdgeTable) (k : Key) : Type 0 where
  pub first_wf : WFPivots pt ≡ true
  pub second_wf : WFPivots qt ≡ true
  pub first_edges : WFEdges et pt ≡ true
  pub second_edges : WFEdges ft qt ≡ true
  pub ends : last_pivot pt ≡ key k
  pub begins : pivot_at qt 0 ≡ key k

module _ {pt qt : PivotTable} {et ft : EdgeTable} {k : Key} (j : Joinable pt qt et ft k) where
  -- the pivots before the meeting one, and behind it
  abbrev xs : PivotTable
  xs = take (length pt - 1) pt

  abbrev ys : PivotTable
  ys = drop 1 qt

  -- so the two are the halves that meet there
  halves : (left : Bool) → half left xs k ys ≡ cond left pt qt
  halves true = rw (← j.ends) (ends_with pt (omega (arith, wf_count pt j.first_wf)))
  halves false = rw (← j.begins) (begins_with qt (omega (arith, wf_count qt j.second_wf)))

  meets : Meeting xs k ys et ft
  meets =
      record {
        first_wf = rw (halves true) j.first_wf;
        second_wf = rw (halves false) j.second_wf;
        first_edges = rw (halves true) j.first_edges;
        second_edges = rw (halves false) j.second_edges;
      }

  -- and what is joined is the whole
  whole_is : xs ++ (key k ∷ ys) ≡ JoinPivots pt qt
  unfolding JoinPivots
  whole_is = sym (append_assoc xs (key k ∷ []) ys) ∙ rw (halves true)

  -- the joined table
  abbrev new : PivotTable
  new = JoinPivots pt qt

  abbrev new_edges : EdgeTable
  new_edges = JoinEdges et ft

  -- it has one pivot fewer than both
  pub join_length : length new + 1 ≡ length pt + length qt
  join_length = join_count pt qt (omega (arith, wf_count qt j.second_wf))

  -- it is well formed
  pub join_wf : WFPivots new ≡ true
  join_wf = rw (← whole_is) (whole_wf meets)

  -- the joined table's edges are well formed
  pub join_edges_wf : WFEdges new_edges new ≡ true
  unfolding JoinEdges
  join_edges_wf = rw (← whole_is) (whole_edges_wf meets)

  -- it is of bytes
  pub join_bytes : BytesT pt → BytesT qt → BytesT new
  join_bytes b c = rw (← whole_is) (whole_bytes meets (subst BytesT (sym (halves true)) b) (subst BytesT (sym (halves false)) c))

  -- it can be cut at the meeting pivot
  pub join_inside : (left : Bool) → inside left new k ≡ true
  join_inside left = rw (← whole_is) (whole_inside meets left)

  -- its cuts there are the two
  pub join_split : (left : Bool) → Split left new k ≡ cond left pt qt
  join_split left = rw (← whole_is) (whole_split meets left ∙ halves left)

  -- with their edges
  pub join_split_edges : (left : Bool) → SplitEdges left new_edges new k ≡ cond left et ft
  unfolding JoinEdges
  join_split_edges true = rw (← whole_is) (whole_split_edges meets true)
  join_split_edges false = rw (← whole_is) (whole_split_edges meets false)

  -- a key of the one is a key of the joined table below the meeting pivot
  pub join_first_bounded : (i : Key) → BoundedKey pt i ≡ (BoundedKey new i && lt (key i) (key k))
  join_first_bounded i = ap (λ (t : PivotTable). BoundedKey t i) (sym (join_split true)) ∙ split_left_bounded new k join_wf (join_inside true) i

  -- a key of the other one that is not
  pub join_second_bounded : (i : Key) → BoundedKey qt i ≡ (BoundedKey new i && lte (key k) (key i))
  join_second_bounded i = ap (λ (t : PivotTable). BoundedKey t i) (sym (join_split false)) ∙ split_right_bounded new k join_wf (join_inside false) i

  -- by the joined table a key of either half is translated as by that half
  pub join_preserved : BytesT pt → BytesT qt → Bytes k → (left : Bool) (i : Key) → Bytes i → BoundedKey (cond left pt qt) i ≡ true
      → TranslateKey new new_edges i ≡ TranslateKey (cond left pt qt) (cond left et ft) i
  join_preserved b c d left i h v =
      rw (← join_split left, ← join_split_edges left)
      (sym (split_preserved new k join_wf (join_bytes b c) d new_edges join_edges_wf left (join_inside left) i h (rw (join_split left) v)))
