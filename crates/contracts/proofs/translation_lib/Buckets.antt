-- TranslationLib, lines 360 to 403: buckets under another prefix.
use mathlib.Core.Path.{◌≡◌, refl}
use mathlib.Core.Bool.{true, false}
use mathlib.Core.List.{List, [], ◌∷◌, ◌++◌, map-append}
use Prim.Native.Nat.{ℕ, ◌+◌, ◌≤◌, ◌<◌}
use native.Mathlib.Numerals.{add-one}
use native.Mathlib.Omega.{arith}
use lib.ListN.{length, drop, get_or, length-map, drop_of_length-le}
use lib.Seq.{drop-cons}
use Rattle.model.specs.keys.Key.{Key, IsPrefix, change_prefix}
use Rattle.model.specs.buckets.Bucket.{Entry, Bucket, TranslateBucket, TranslateBuckets, entries_rise, kept_from, WFTBucket}
use Rattle.model.proofs.Lists.{get_d_map}
use Rattle.model.proofs.buckets.Bucket.{translated_wft}
use Rattle.model.proofs.buckets.Below.{rise_tail}
use Rattle.model.proofs.buckets.Renamed.{renamed_rises}
use Rattle.contracts.specs.Translation.{TranslateBucketInternal}
use Rattle.contracts.proofs.translation_lib.Shared.{from_place}

-- ---- from a place on

module _ (bucket : Bucket) (p q : Key) (idx : ℕ) where
  -- function TranslateBucketInternal(bucket: Bucket, prefix: Key, newPrefix: Key, idx: int) : (tbucket: TBucket)
  -- the source's recursion; an entry is a key with its message, here its number
  pub translation_lib_360 : (idx ≡ length bucket → TranslateBucketInternal bucket p q idx ≡ record { b = []; idxs = [] })
      × ((e : Entry) → idx < length bucket → IsPrefix p (get_or bucket idx e).key ≡ true
      → TranslateBucketInternal bucket p q idx
      ≡ record {
        b = record { key = change_prefix p q (get_or bucket idx e).key; number = (get_or bucket idx e).number } ∷ (TranslateBucketInternal bucket p q (idx + 1)).b;
        idxs = idx ∷ (TranslateBucketInternal bucket p q (idx + 1)).idxs;
      })
      × ((e : Entry) → idx < length bucket → IsPrefix p (get_or bucket idx e).key ≡ false → TranslateBucketInternal bucket p q idx ≡ TranslateBucketInternal bucket p q (idx + 1))
  unfolding TranslateBucket kept_from
  translation_lib_360 = (
    λ h. let l : length bucket ≤ idx = omega arith in rw (drop_of_length-le bucket l),
    λ e l h. rw (drop-cons bucket idx e l, h, add-one idx),
    λ e l h. rw (drop-cons bucket idx e l, h, add-one idx),
  )

  -- ensures WFTBucket(bucket, tbucket, prefix, newPrefix, idx)
  pub translation_lib_363 : idx ≤ length bucket → WFTBucket bucket (TranslateBucketInternal bucket p q idx).b (TranslateBucketInternal bucket p q idx).idxs p q idx
  translation_lib_363 l = translated_wft bucket p q idx l

  -- ensures WFBucket(bucket) ==> WFBucket(tbucket.b)
  -- of the order of entries: those that rise strictly stay so
  pub translation_lib_364 : entries_rise bucket ≡ true → entries_rise (TranslateBucketInternal bucket p q idx).b ≡ true
  translation_lib_364 h = renamed_rises (drop idx bucket) p q (from_place entries_rise rise_tail idx bucket h)

-- ---- a bucket

module _ (bucket : Bucket) (p q : Key) where
  -- function TranslateBucket(bucket: Bucket, prefix: Key, newPrefix: Key) : (res : Bucket)
  pub translation_lib_387 : TranslateBucket bucket p q ≡ (TranslateBucketInternal bucket p q 0).b
  translation_lib_387 = refl

  -- ensures WFBucket(bucket) ==> WFBucket(res)
  -- of the order of entries
  pub translation_lib_389 : entries_rise bucket ≡ true → entries_rise (TranslateBucket bucket p q) ≡ true
  translation_lib_389 = renamed_rises bucket p q

-- ---- a list of buckets

module _ (p q : Key) where
  -- function TranslateBuckets(blist: BucketList, prefix: Key, newPrefix: Key) : (res : BucketList)
  -- the source's recursion, by the last bucket
  pub translation_lib_397 : (TranslateBuckets [] p q ≡ [])
      × ((blist : List Bucket) (last : Bucket) → TranslateBuckets (blist ++ (last ∷ [])) p q ≡ TranslateBuckets blist p q ++ (TranslateBucket last p q ∷ []))
  unfolding TranslateBuckets
  translation_lib_397 = (refl, λ blist last. map-append (λ (b : Bucket). TranslateBucket b p q) blist (last ∷ []))

module _ (blist : List Bucket) (p q : Key) where
  -- ensures |res| == |blist|
  pub translation_lib_399 : length (TranslateBuckets blist p q) ≡ length blist
  unfolding TranslateBuckets
  translation_lib_399 = length-map blist (λ (b : Bucket). TranslateBucket b p q)

  -- && res[i] == TranslateBucket(blist[i], prefix, newPrefix)
  pub translation_lib_402 : (i : ℕ) → i < length (TranslateBuckets blist p q) → get_or (TranslateBuckets blist p q) i [] ≡ TranslateBucket (get_or blist i []) p q
  unfolding TranslateBuckets
  translation_lib_402 i l = get_d_map (λ (b : Bucket). TranslateBucket b p q) blist i [] [] (omega (arith, translation_lib_399))

  -- && WFBucket(res[i])
  -- of the order of entries, where those of each bucket rise strictly
  pub translation_lib_401 : ((i : ℕ) → i < length blist → entries_rise (get_or blist i []) ≡ true)
      → (i : ℕ) → i < length (TranslateBuckets blist p q) → entries_rise (get_or (TranslateBuckets blist p q) i []) ≡ true
  translation_lib_401 f i l = rw (translation_lib_402 i l) (translation_lib_389 (get_or blist i []) p q (f i (omega (arith, translation_lib_399))))
