-- Whether a bucket will fit, and lists of buckets: what stands in place of lseq<MutBucket>, a bucket with its index (W5).
use Rattle.std.specs.Prelude.{◌≡◌, Bool, true, false, not, ◌&&◌, List, [], ◌∷◌, ◌++◌, ℕ, ◌+◌, ◌*◌, ◌≤◌, ◌<◌, leb, length, take, drop, get_or, Ok}
use Rattle.std.proofs.Math.Option.{none}
use Rattle.model.specs.keys.Key.{Key}
use Rattle.model.specs.keys.Order.{key}
use Rattle.model.specs.records.Record.{elements, encode_all}
use Rattle.model.specs.tables.Tables.{PivotTable, all, CutoffForLeft, CutoffForRight}
use Rattle.model.specs.buckets.Bucket.{Bucket, entry_size, entry_bytes, entries, TranslateBucket, entries_rise}
use Rattle.model.specs.buckets.Index.{entries_below, entries_from, place_at, slot_entries, slot_buckets, together, places_from, place_size, encode_index, places}
use Rattle.model.specs.calls.Refusals.{first}
use Rattle.model.specs.calls.BucketCalls.{not_entry_count, entries_read, bucket_causes, short_entry}
use Rattle.model.specs.calls.CutCalls.{cut_pivots}
use Rattle.model.specs.calls.IndexCalls.{cut_index_answer, cut_index_leaves_bucket, cut_index_leaves_index}
use Rattle.model.specs.calls.IndexCalls.{translate_index_answer, translate_index_leaves_bucket, translate_index_leaves_index}

-- TranslateBucketWillFit: no kept key passes 64 bytes
abbrev pub TranslateBucketWillFit : Bucket → Key → Key → Bool
TranslateBucketWillFit b p q = all short_entry (TranslateBucket b p q)

-- WillFitInPkv, of a destination of n bytes: besides, it holds the entries kept
abbrev pub WillFitInPkv : Bucket → Key → Key → ℕ → Bool
WillFitInPkv b p q n = TranslateBucketWillFit b p q && leb (length (TranslateBucket b p q) * entry_size) n

-- TranslateBucketsWillFit
abbrev pub TranslateBucketsWillFit : List Bucket → Key → Key → Type 0
TranslateBucketsWillFit blist p q = (i : ℕ) → i < length blist → TranslateBucketWillFit (get_or blist i []) p q ≡ true

-- MutBucket.Inv: whole entries, at most 512, each with the record of a key
abbrev pub Inv : List ℕ → Bool
Inv l = not (not_entry_count l) && entries_read (entry_bytes l)

-- MutBucket.ILseq: the bytes l of a bucket and x of an index hold a list of buckets: one after the other they are the entries, and the places are where each begins, and the total
pub record ILseq (l x : List ℕ) (blist : List Bucket) : Type 0 where
  pub bucket : entries l ≡ together blist
  pub index : x ≡ encode_index (places_from 0 blist)

-- MutBucket.InvLseq, of a list of n buckets: l is a bucket whose entries rise, and x has n places and the total, which rise, weakly, from 0 on
pub record InvLseq (l x : List ℕ) (n : ℕ) : Type 0 where
  pub bucket : first (bucket_causes false l) ≡ none
  pub rises : entries_rise (entries l) ≡ true
  pub count : length (places x) ≡ n + 1
  pub begins : place_at (places x) 0 ≡ 0
  pub ends : place_at (places x) n ≡ length (entries l)
  pub climbs : (i j : ℕ) → i ≤ j → j ≤ n → place_at (places x) i ≤ place_at (places x) j

-- [bucket.I()] + blist[cRight+1..]: bucket is what a right cut at k leaves of the cut slot's, blist the slots'
abbrev pub keep_right : PivotTable → Bucket → Key → List Bucket
keep_right pt b k = entries_from (key k) (slot_entries pt b (CutoffForRight pt k)) ∷ drop (CutoffForRight pt k + 1) (slot_buckets pt b)

-- [left.I()] + blist[cRight+1..cLeft] + [right.I()]: left is what a right cut at k leaves of the cut slot's, right what a left cut at r does
abbrev pub cut_node : PivotTable → Bucket → Key → Key → List Bucket
cut_node pt b k r =
    (entries_from (key k) (slot_entries pt b (CutoffForRight pt k)) ∷ drop (CutoffForRight pt k + 1) (take (CutoffForLeft pt r) (slot_buckets pt b)))
    ++ (entries_below (key r) (slot_entries pt b (CutoffForLeft pt r)) ∷ [])

-- ---- calls

-- an accepted cut of the pivots p, the bucket l and its index x at k: p' are the cut table's records, l' and x' what is written
pub record CutsIndex (left : Bool) (p l x : List ℕ) (k : Key) (p' l' x' : List ℕ) : Type 0 where
  pub entries_to : List ℕ
  pub places_to : List ℕ
  pub total : ℕ
  pub answered : cut_index_answer left p l x k entries_to places_to ≡ Ok total
  pub pivots : p' ≡ encode_all (cut_pivots left p k)
  pub bucket : l' ≡ take (total * entry_size) (cut_index_leaves_bucket left p l x k entries_to places_to)
  pub index : x' ≡ take (length (cut_pivots left p k) * place_size) (cut_index_leaves_index left p l x k entries_to places_to)

-- an accepted translation of the bucket l with its index x from the prefix old to new: l' and x' are what is written
pub record TranslatesIndex (p l x : List ℕ) (old new : Key) (l' x' : List ℕ) : Type 0 where
  pub entries_to : List ℕ
  pub places_to : List ℕ
  pub total : ℕ
  pub answered : translate_index_answer p l x old new entries_to places_to ≡ Ok total
  pub bucket : l' ≡ take (total * entry_size) (translate_index_leaves_bucket p l x old new entries_to places_to)
  pub index : x' ≡ take (length (elements p) * place_size) (translate_index_leaves_index p l x old new entries_to places_to)
