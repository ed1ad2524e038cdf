-- Declarations of BoundedPivotsLib that no call needs, and the lines of WFPivots.
use Rattle.std.specs.Prelude.{◌≡◌, Bool, true, false, ◌&&◌, List, [], map, ℕ, ◌-◌, ◌≤◌, ◌<◌, eqb, leb, ltb, length, get_or}
use Rattle.model.specs.keys.Key.{Key, max_len}
use Rattle.model.specs.keys.Order.{Element, key, max, is_key}
use Rattle.model.specs.tables.Tables.{PivotTable, NumBuckets, pivot_at, all, implies, ElementsAreKeys, IsStrictlySorted, BoundedKey, Route}

-- ElementIsKey: a key of at most 64 bytes
abbrev pub ElementIsKey : Element → Bool
ElementIsKey (key k) = leb (length k) max_len
ElementIsKey max = false

-- KeysToElements
unfoldable pub KeysToElements : List Key → PivotTable
KeysToElements keys = map key keys

-- BoundedKeySeq: each key is bounded
unfoldable pub BoundedKeySeq : PivotTable → List Key → Bool
BoundedKeySeq pt keys = all (BoundedKey pt) keys

-- BoundedSortedKeySeq: the first and the last key are bounded, where there is one
unfoldable pub BoundedSortedKeySeq : PivotTable → List Key → Bool
BoundedSortedKeySeq pt keys = implies (ltb 0 (length keys)) (BoundedKey pt (get_or keys 0 []) && BoundedKey pt (get_or keys (length keys - 1) []))

-- PivotSize
abbrev pub PivotSize : Element → ℕ
PivotSize (key k) = length k
PivotSize max = 0

-- PivotTableBucketKeySet: whether a key is in the set
unfoldable pub PivotTableBucketKeySet : PivotTable → ℕ → Key → Bool
PivotTableBucketKeySet pt i k = BoundedKey pt k && eqb (Route pt k) i

-- the four lines of WFPivots
pub record WFLines (pt : PivotTable) : Type 0 where
  pub sorted : IsStrictlySorted pt ≡ true
  pub keys : (i : ℕ) → i < NumBuckets pt → is_key (pivot_at pt i) ≡ true
  pub are_keys : ElementsAreKeys pt ≡ true
  pub many : 2 ≤ length pt
