-- What a table and its edges make of a key, by their bytes.
use Rattle.std.specs.Prelude.{List, ℕ, ◌+◌}
use Rattle.std.proofs.Math.Option.{Option}
use Rattle.model.specs.keys.Key.{Key}
use Rattle.model.specs.keys.Order.{key}
use Rattle.model.specs.records.Record.{key_bytes, element, edge_of, elements, edges}
use Rattle.model.specs.inner.Places.{record_at}
use Rattle.model.specs.ranges.RangePrefix.{PivotLcp}
use Rattle.model.specs.translation.PrefixSet.{PrefixSet}
use Rattle.model.specs.translation.Translation.{edge_pair, TranslateKey}

-- the key k translated by the pivots p and the edges e
abbrev pub translated : List ℕ → List ℕ → Key → Key
translated p e k = TranslateKey (elements p) (edges e) k

-- the pair of slot c, by the records of its pivots and its edge
abbrev pub slot_pair : List ℕ → List ℕ → ℕ → Option PrefixSet
slot_pair p e c = edge_pair (PivotLcp (key (key_bytes (record_at p c))) (element (record_at p (c + 1)))) (edge_of (record_at e c))
