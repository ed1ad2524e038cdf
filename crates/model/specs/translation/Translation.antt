-- The translation of a key in a table: Translate and TranslateKey of TranslationLib.
use Rattle.std.proofs.Math.Option.{Option, none}
use Rattle.std.specs.Prelude.{◌+◌}
use Rattle.model.specs.keys.Key.{Key}
use Rattle.model.specs.records.Record.{Edge, edge, no_edge}
use Rattle.model.specs.ranges.RangePrefix.{PivotLcp}
use Rattle.model.specs.tables.Tables.{PivotTable, EdgeTable, pivot_at, edge_at, Route}
use Rattle.model.specs.translation.PrefixSet.{PrefixSet, pair, ApplyPrefixSet}

-- "the prefix of the slot's range is changed to the slot's edge. No edge: the key itself"
unfoldable pub edge_pair : Key → Edge → Option PrefixSet
edge_pair prefix (edge q) = pair prefix q
edge_pair prefix no_edge = none

-- Translate, for a bounded key
unfoldable pub Translate : PivotTable → EdgeTable → Key → Option PrefixSet
Translate pt et k =
    let r = Route pt k in
    edge_pair (PivotLcp (pivot_at pt r) (pivot_at pt (r + 1))) (edge_at et r)

-- TranslateKey, of any length; a call refuses with 8 where it passes 64 bytes
unfoldable pub TranslateKey : PivotTable → EdgeTable → Key → Key
TranslateKey pt et k = ApplyPrefixSet (Translate pt et k) k
