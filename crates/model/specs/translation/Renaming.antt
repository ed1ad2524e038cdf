-- Pivots and edges under another prefix: TranslateElement, TranslatePivotPairInternal, TranslatePivots and TranslateEdges of TranslationLib.
use Rattle.std.specs.Prelude.{◌≡◌, false, cond, [], ◌∷◌, ◌++◌, map, take}
use Rattle.model.specs.keys.Key.{Key, IsPrefix, change_prefix}
use Rattle.model.specs.keys.Order.{Element, key, max}
use Rattle.model.specs.records.Record.{Edge, edge, no_edge}
use Rattle.model.specs.ranges.RangePrefix.{PivotLcp}
use Rattle.model.specs.ranges.UpperBound.{ShortestUncommonPrefix}
use Rattle.model.specs.tables.Tables.{PivotTable, EdgeTable, NumBuckets}

-- TranslateElement, for a key that begins with the prefix
unfoldable pub TranslateElement : Key → Key → Element → Element
TranslateElement p q (key k) = key (change_prefix p q k)
TranslateElement p q max = max

-- two bounds of a range
pub record Bounds : Type 0 where
  pub left : Element
  pub right : Element

-- "right is max or lacks the prefix"
pub data Lacks (p : Key) : Element → Type 0 where
  is_max : Lacks p max
  other : {r : Key} → IsPrefix p r ≡ false → Lacks p (key r)

-- the new right bound: "If right is max or lacks the prefix, the new right is the upper bound of the new prefix"
unfoldable pub translate_right : Key → Key → Element → Element
translate_right p q (key k) = cond (IsPrefix p k) (TranslateElement p q (key k)) (ShortestUncommonPrefix q)
translate_right p q max = ShortestUncommonPrefix q

-- TranslatePivotPairInternal
unfoldable pub TranslatePivotPairInternal : Element → Element → Key → Key → Bounds
TranslatePivotPairInternal left right p q = record { left = TranslateElement p q left; right = translate_right p q right }

-- TranslatePivots: each pivot but the last, then the given end
unfoldable pub TranslatePivots : PivotTable → Key → Key → Element → PivotTable
TranslatePivots pt p q end = map (TranslateElement p q) (take (NumBuckets pt) pt) ++ (end ∷ [])

-- "TranslateEdges fills an absent edge with the range's prefix, which may be ε"
unfoldable pub filled : Key → Edge → Edge
filled prefix (edge q) = edge q
filled prefix no_edge = edge prefix

unfoldable pub edges_from : Element → PivotTable → EdgeTable → EdgeTable
edges_from p [] et = []
edges_from p (q ∷ pt) [] = []
edges_from p (q ∷ pt) (e ∷ et) = filled (PivotLcp p q) e ∷ edges_from q pt et

-- TranslateEdges
unfoldable pub TranslateEdges : EdgeTable → PivotTable → EdgeTable
TranslateEdges et [] = []
TranslateEdges et (p ∷ pt) = edges_from p pt et
