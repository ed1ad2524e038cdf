-- Declarations of TranslationLib and TranslationImpl that no call needs, and those that the source asks from a place `idx` on.
use Rattle.std.specs.Prelude.{◌≡◌, Bool, true, cond, not, ◌&&◌, List, ℕ, zero, suc, ◌+◌, ◌<◌, ltb, length, take, drop, get_or}
use Rattle.std.proofs.Math.Option.{Option}
use Rattle.model.specs.keys.Key.{Key, Bytes, is_nil, IsPrefix}
use Rattle.model.specs.keys.Order.{Element, max}
use Rattle.model.specs.records.Record.{edge, elements}
use Rattle.model.specs.ranges.RangePrefix.{PivotLcp, InBetween}
use Rattle.model.specs.ranges.UpperBound.{raised_at}
use Rattle.model.specs.tables.Tables.{PivotTable, EdgeTable, pivot_at, BoundedKey, NumBuckets, edge_at}
use Rattle.model.specs.cuts.TwoOrders.{TranslatedAlike}
use Rattle.model.specs.translation.PrefixSet.{PrefixSet}
use Rattle.model.specs.translation.Translation.{TranslateKey}
use Rattle.model.specs.translation.Renaming.{TranslatePivots, TranslateEdges}
use Rattle.model.specs.buckets.Bucket.{Bucket, TranslateBucket, kept_from}

-- NonEmptyLcp
abbrev pub NonEmptyLcp : PivotTable → ℕ → Bool
NonEmptyLcp pt i = not (is_nil (PivotLcp (pivot_at pt i) (pivot_at pt (i + 1))))

-- the two lines of WFEdges
pub record EdgeLines (et : EdgeTable) (pt : PivotTable) : Type 0 where
  pub count : length et ≡ NumBuckets pt
  pub non_empty : (i : ℕ) (q : Key) → i < length et → edge_at et i ≡ edge q → NonEmptyLcp pt i ≡ true

-- TranslationPreserved, of keys of any length
abbrev pub TranslationPreserved : PivotTable → EdgeTable → PivotTable → EdgeTable → Type 0
TranslationPreserved pt et pt' et' =
    (k : Key) → Bytes k → BoundedKey pt' k ≡ true → (BoundedKey pt k ≡ true) × (TranslateKey pt' et' k ≡ TranslateKey pt et k)

-- by p' and e' each key that they bound gets the answer and the bytes that p and e give
abbrev pub PreservedByCalls : List ℕ → List ℕ → List ℕ → List ℕ → Type 0
PreservedByCalls p e p' e' = (j : Key) → Bytes j → BoundedKey (elements p') j ≡ true → (BoundedKey (elements p) j ≡ true) × TranslatedAlike p e p' e' j

-- AllKeysInBetweenHasPrefix, of keys of any length
abbrev pub AllKeysInBetweenHasPrefix : Element → Element → Key → Type 0
AllKeysInBetweenHasPrefix left right p = (k : Key) → Bytes k → InBetween left right k ≡ true → IsPrefix p k ≡ true

-- TranslationTable
abbrev pub TranslationTable : Type 0
TranslationTable = List (Option PrefixSet)

-- ShortestUncommonPrefix(prefix, idx): the byte at idx is raised unless it is FF or past the end, else the bytes before it decide
unfoldable pub ShortestUncommonPrefixAt : Key → ℕ → Element
ShortestUncommonPrefixAt p zero = cond (ltb 0 (length p) && ltb (get_or p 0 0) 255) (raised_at p 0) max
ShortestUncommonPrefixAt p (suc i) =
    cond (ltb (suc i) (length p) && ltb (get_or p (suc i) 0) 255) (raised_at p (suc i)) (ShortestUncommonPrefixAt p i)

-- TranslatePivots(pt, prefix, newPrefix, end, idx) and TranslateEdges(et, pt, idx): what stands from idx on, translated
abbrev pub TranslatePivotsFrom : PivotTable → Key → Key → Element → ℕ → PivotTable
TranslatePivotsFrom pt p q end idx = TranslatePivots (drop idx pt) p q end

abbrev pub TranslateEdgesFrom : EdgeTable → PivotTable → ℕ → EdgeTable
TranslateEdgesFrom et pt idx = TranslateEdges (drop idx et) (drop idx pt)

-- TBucket: a translated bucket and the places from which its entries come
pub record TBucket : Type 0 where
  pub b : Bucket
  pub idxs : List ℕ

-- TranslateBucketInternal(bucket, prefix, newPrefix, idx): the entries from idx on
abbrev pub TranslateBucketInternal : Bucket → Key → Key → ℕ → TBucket
TranslateBucketInternal bucket p q idx =
    record { b = TranslateBucket (drop idx bucket) p q; idxs = kept_from idx (drop idx bucket) p }

-- TranslateBucketSimple(bucket, prefix, newPrefix, i): the first i entries
abbrev pub TranslateBucketSimple : Bucket → Key → Key → ℕ → Bucket
TranslateBucketSimple bucket p q i = TranslateBucket (take i bucket) p q
