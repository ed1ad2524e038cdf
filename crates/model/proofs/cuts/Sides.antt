-- The left and the right cut under one name: what the laws of each say, by the side.
use mathlib.Core.Path.{◌≡◌, sym, ◌∙◌}
use mathlib.Core.Bool.{Bool, true, false}
use Prim.Native.Nat.{◌≤◌}
use lib.ListN.{length}
use Rattle.model.specs.keys.Key.{Key, Bytes, max_len}
use Rattle.model.specs.tables.Tables.{PivotTable, EdgeTable, WFPivots, WFEdges, BoundedKey, BytesT}
use Rattle.model.specs.cuts.Sides.{inside, Split, SplitEdges}
use Rattle.model.specs.translation.Translation.{TranslateKey}
use Rattle.model.proofs.keys.Key.{both}
use Rattle.model.proofs.cuts.Cuts.{split_left_wf, split_left_most, split_left_bytes, split_left_bounded}
use Rattle.model.proofs.cuts.Cuts.{split_right_wf, split_right_most, split_right_bytes, split_right_bounded}
use Rattle.model.proofs.cuts.SplitEdges.{split_left_edges_wf, split_right_edges_wf}
use Rattle.model.proofs.cuts.Preserved.{split_left_preserved, split_right_preserved}

module _ (pt : PivotTable) (k : Key) (w : WFPivots pt ≡ true) where
  -- a cut is well formed
  pub split_wf : (left : Bool) → inside left pt k ≡ true → length k ≤ max_len → WFPivots (Split left pt k) ≡ true
  split_wf true v = split_left_wf pt k w v
  split_wf false v = split_right_wf pt k w v

  -- it has no more pivots than the table
  pub split_most : (left : Bool) → inside left pt k ≡ true → length (Split left pt k) ≤ length pt
  split_most true v = split_left_most pt k w v
  split_most false v = split_right_most pt k w v

  -- its keys are keys of the table
  pub split_bounded : (left : Bool) → inside left pt k ≡ true → (j : Key) → BoundedKey (Split left pt k) j ≡ true → BoundedKey pt j ≡ true
  split_bounded true v j h = (both _ _ (sym (split_left_bounded pt k w v j) ∙ h)).0
  split_bounded false v j h = (both _ _ (sym (split_right_bounded pt k w v j) ∙ h)).0

  module _ (b : BytesT pt) (c : Bytes k) where
    -- it is of bytes
    pub split_bytes : (left : Bool) → inside left pt k ≡ true → BytesT (Split left pt k)
    split_bytes true v = split_left_bytes pt k w v b c
    split_bytes false v = split_right_bytes pt k w v b c

    module _ (et : EdgeTable) (x : WFEdges et pt ≡ true) where
      -- its edges fit
      pub split_edges_wf : (left : Bool) → inside left pt k ≡ true → WFEdges (SplitEdges left et pt k) (Split left pt k) ≡ true
      split_edges_wf true v = split_left_edges_wf pt et k w x v b c
      split_edges_wf false v = split_right_edges_wf pt et k w x v b c

      -- a cut translates its keys as the table does
      pub split_preserved : (left : Bool) → inside left pt k ≡ true → (j : Key) → Bytes j → BoundedKey (Split left pt k) j ≡ true
          → TranslateKey (Split left pt k) (SplitEdges left et pt k) j ≡ TranslateKey pt et j
      split_preserved true v j d = split_left_preserved pt et k w x b c j d v
      split_preserved false v j d = split_right_preserved pt et k w x b c j d v
