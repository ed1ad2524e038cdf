-- A cut translates each key that it keeps as the table does.
use mathlib.Core.Path.{◌≡◌, refl}
use mathlib.Core.Bool.{true}
use mathlib.Core.Option.{some, some-injective}
use Prim.Native.Nat.{◌+◌}
use lib.ListN.{length}
use Rattle.model.specs.keys.Key.{Key, Bytes, IsPrefix}
use Rattle.model.specs.keys.Order.{Element, key, max, lte, lt, BytesE}
use Rattle.model.specs.records.Record.{Edge, edge, no_edge}
use Rattle.model.specs.ranges.RangePrefix.{PivotLcp}
use Rattle.model.specs.tables.Tables.{PivotTable, EdgeTable, NumBuckets, pivot_at, edge_at, WFPivots, WFEdges, BoundedKey, ValidLeftCutOffKey, Route, BytesT}
use Rattle.model.specs.cuts.Cuts.{SplitLeft, SplitRight, SplitLeftEdges, SplitRightEdges, cut_edge, edge_within}
use Rattle.model.specs.translation.Translation.{edge_pair, Translate, TranslateKey}
use Rattle.model.specs.translation.PrefixSet.{PrefixSet, ApplyPrefixSet}
use Rattle.model.proofs.ranges.RangePrefix.{shared}
use Rattle.model.proofs.cuts.Between.{bytes_at}
use Rattle.model.proofs.tables.Routing.{route_from, route_below}
use Rattle.model.proofs.tables.Slots.{Table, wf_says}
use Rattle.model.proofs.cuts.Ranges.{cut_to, Spans, cut_slot, cut_route}
use Rattle.model.proofs.cuts.Cuts.{left_spans, left_is_cut, right_spans, right_is_cut}
use Rattle.model.proofs.cuts.CutEdges.{change_twice, edges_say, cut_edges_to, cut_edge_lem, cut_narrows}
use Rattle.model.proofs.cuts.SplitEdges.{left_edges_cut, right_edges_cut}

-- the prefix of a range of elements begins each of its keys
pub begins : (l r : Element) (k : Key) → Bytes k → lte l (key k) ≡ true → lt (key k) r ≡ true → IsPrefix (PivotLcp l r) k ≡ true
unfolding PivotLcp IsPrefix
begins (key l) r k b h f = shared l r k b (rw h f)
begins max r k b h f = refl

-- a pair is there only where an edge is, and is of the range's prefix and that edge
pair_is : (p : Key) (x : Edge) (a : PrefixSet) → edge_pair p x ≡ some a → (a.prefix ≡ p) × (x ≡ edge a.new_prefix)
unfolding edge_pair
pair_is p (edge q) a e = let f = some-injective _ a e in (rw (← f), rw (← f))
pair_is p no_edge a e = (cc, cc)

module _ (pt : PivotTable) (et : EdgeTable) (k : Key) (a : PrefixSet) where
  -- the new prefix of a key's pair is the edge of its slot
  pub translate_edge : Translate pt et k ≡ some a → edge_at et (Route pt k) ≡ edge a.new_prefix
  unfolding Translate
  translate_edge e = (pair_is _ _ a e).1

  -- the prefix of a key's pair begins the key
  pub translate_begins : WFPivots pt ≡ true → BoundedKey pt k ≡ true → Bytes k → Translate pt et k ≡ some a → IsPrefix a.prefix k ≡ true
  unfolding Translate
  translate_begins w h b e = rw (pair_is _ _ a e).0 (begins _ _ k b (route_from pt k w h) (route_below pt k w h))

-- the longer prefix, changed to the cut edge, is the prefix, changed to the edge
cut_pair : (p q k : Key) (e : Edge) → IsPrefix p q ≡ true → IsPrefix q k ≡ true
    → ApplyPrefixSet (edge_pair q (cut_edge p q e)) k ≡ ApplyPrefixSet (edge_pair p e) k
unfolding ApplyPrefixSet edge_pair cut_edge
cut_pair p q k (edge x) h f = change_twice p q k x h f
cut_pair p q k no_edge h f = refl

-- the cut to a range translates its keys as the table does
pub cut_preserved : {pt : PivotTable} {a b : Element} (et : EdgeTable) → Spans pt a b → BytesT pt → BytesE a → BytesE b
    → (k : Key) → Bytes k → BoundedKey (cut_to pt a b) k ≡ true
    → TranslateKey (cut_to pt a b) (cut_edges_to pt et a b) k ≡ TranslateKey pt et k
unfolding TranslateKey Translate edge_within
cut_preserved {pt} {a} {b} et w t f g k c h =
    let v = cut_slot w k h in
    let i = Route (cut_to pt a b) k in
    let e = begins (pivot_at (cut_to pt a b) i) (pivot_at (cut_to pt a b) (i + 1)) k c v.from v.rises in
    rw (cut_edge_lem pt et a b i v.slot, ← cut_route w k h) (cut_pair _ _ k _ (cut_narrows w t f g i v.slot) e)

module _ (pt : PivotTable) (et : EdgeTable) (k : Key) (w : WFPivots pt ≡ true) (x : WFEdges et pt ≡ true) (b : BytesT pt) (c : Bytes k)
    (j : Key) (d : Bytes j) where
  t : Table pt
  t = (wf_says pt w).table

  n : length et + 1 ≡ length pt
  n = (edges_say et pt x).count

  -- the left cut translates its keys as the table does
  pub split_left_preserved : ValidLeftCutOffKey pt k ≡ true → BoundedKey (SplitLeft pt k) j ≡ true
      → TranslateKey (SplitLeft pt k) (SplitLeftEdges et pt k) j ≡ TranslateKey pt et j
  split_left_preserved v h =
      rw (left_edges_cut et t n k v, left_is_cut t k v)
      (cut_preserved et (left_spans t k v) b (bytes_at pt 0 b) c j d (rw (left_is_cut t k v) at h))

  -- the right cut translates its keys as the table does
  pub split_right_preserved : BoundedKey pt k ≡ true → BoundedKey (SplitRight pt k) j ≡ true
      → TranslateKey (SplitRight pt k) (SplitRightEdges et pt k) j ≡ TranslateKey pt et j
  split_right_preserved v h =
      rw (right_edges_cut et t n k v, right_is_cut t k v)
      (cut_preserved et (right_spans t k v) b c (bytes_at pt (NumBuckets pt) b) j d (rw (right_is_cut t k v) at h))
