-- TranslationImpl, lines 321 to 469: lists of buckets under another prefix. A list is a bucket with its index, its buckets are the slots' (W5).
use Rattle.std.specs.Prelude.{Ok, Err}
use mathlib.Core.Path.{◌≡◌, refl, sym, ◌∙◌}
use mathlib.Core.Bool.{true, false, ◌&&◌, ◌||◌}
use mathlib.Core.List.{List, [], ◌∷◌}
use mathlib.Core.Logic.{◌⊎◌, ⊎_elim}
use mathlib.Core.Option.{none}
use Prim.Native.Nat.{ℕ, ◌*◌, ◌≤◌, ◌<◌}
use native.Mathlib.Omega.{arith}
use borrow.Author.Tests.{lt-ltb}
use lib.Dec.{leb}
use lib.ListN.{length, get_or}
use Rattle.model.specs.declared.Refusal.TheVariants.{TooLong, NoRoom, WrongIndex}
use Rattle.model.specs.keys.Key.{Key, too_long}
use Rattle.model.specs.records.Record.{elements}
use Rattle.model.specs.tables.Tables.{all, InitPivotTable, BoundedKey}
use Rattle.model.specs.buckets.Bucket.{Entry, Bucket, entry_size, entries, TranslateBucket, TranslateBuckets}
use Rattle.model.specs.buckets.Index.{slot_buckets, together, place_size}
use Rattle.model.specs.calls.Refusals.{paired, first}
use Rattle.model.specs.calls.KeyCalls.{no_room}
use Rattle.model.specs.calls.TableCalls.{pivot_causes}
use Rattle.model.specs.calls.BucketCalls.{bucket_causes, short_entry, needed_bytes, rename_causes, will_fit_answer}
use Rattle.model.specs.calls.IndexCalls.{entries_inside, entries_causes, given_causes, translate_index_causes, translate_index_answer}
use Rattle.model.proofs.Lists.{inside_all}
use Rattle.model.proofs.tables.Routing.{wf_sorted, init_wf, init_all, contains_all_bounded}
use Rattle.model.proofs.buckets.SlotBuckets.{slots_count, renamed_together}
use Rattle.model.proofs.buckets.CutSlots.{slots_alone}
use Rattle.model.proofs.calls.Refusals.{not_fails, or_left, or_right}
use Rattle.contracts.specs.Refuses.{RefusesAt, Refuses}
use Rattle.contracts.specs.BucketLists.{TranslateBucketWillFit, TranslateBucketsWillFit, Inv, ILseq, InvLseq, TranslatesIndex}
use Rattle.contracts.proofs.Refusing.{refuses_at}
use Rattle.contracts.proofs.translation_impl.Buckets.{neither}
use Rattle.contracts.proofs.Lent.{accepted}
use Rattle.contracts.proofs.ListsLent.{list_unsound, bucket_refused, fits_together, together_fits, long_refused, full_refused, list_accepted, yes_fits}
use Rattle.contracts.proofs.ListsLeft.{list_translated, list_alone, list_passes}

module _ (blist : List Bucket) (p q : Key) where
  -- predicate TranslateBucketsWillFit(buckets: seq<Bucket>, prefix: Key, newPrefix: Key)
  -- of the buckets one after the other in one it is the same question
  pub translation_impl_321 : (TranslateBucketsWillFit blist p q → all short_entry (together (TranslateBuckets blist p q)) ≡ true)
      × (all short_entry (together (TranslateBuckets blist p q)) ≡ true → TranslateBucketsWillFit blist p q)
  translation_impl_321 = (fits_together p q blist, together_fits p q blist)

  -- ensures b == TranslateBucketsWillFit(MutBucket.ILseq(mbuckets), prefix, newPrefix)
  -- asked of the bucket in which the list is: no kept key of any bucket passes 64 bytes, and n bytes hold the entries kept
  pub translation_impl_346 : (l x : List ℕ) → ILseq l x blist → first (rename_causes l p q) ≡ none → (n : ℕ)
      → will_fit_answer l p q n ≡ Ok (all short_entry (together (TranslateBuckets blist p q)) && leb (length (together (TranslateBuckets blist p q)) * entry_size) n)
  unfolding needed_bytes
  translation_impl_346 l x h c n =
      let e : TranslateBucket (entries l) p q ≡ together (TranslateBuckets blist p q) = rw h.bucket (sym (renamed_together p q blist)) in
      accepted _ _ (rename_causes l p q) c ∙ rw (e, neither (all short_entry (together (TranslateBuckets blist p q))) (length (together (TranslateBuckets blist p q)) * entry_size) n)

-- lent any bytes
module _ (p l x : List ℕ) (old new : Key) (db dx : List ℕ) where
  -- requires MutBucket.InvLseq(mbuckets)
  -- the bucket isn't one whose entries rise (1, 2 or 14 then), or the index has no place for each bucket and the total, rising from 0 on
  pub translation_impl_345 : (InvLseq l x (length (slot_buckets (elements p) (entries l))) → ⊥) → RefusesAt Err (translate_index_causes p l x old new db dx) 7 WrongIndex (translate_index_answer p l x old new db dx)
  translation_impl_345 = list_unsound (too_long old || too_long new) false p l x _ _

  -- ensures b ==> (forall i | 0 <= i < |mbuckets| :: WillFitInPkv(lseqs(mbuckets)[i], prefix, newPrefix))
  -- where it says yes of the bucket, and no cause before 8 applies, the list is translated, if there is room for the places
  pub translation_impl_347 : will_fit_answer l old new (length db) ≡ Ok true → first (given_causes (too_long old || too_long new) false p l x) ≡ none → length (elements p) * place_size ≤ length dx
      → (TranslateBucketsWillFit (slot_buckets (elements p) (entries l)) old new)
      × (translate_index_answer p l x old new db dx ≡ Ok (length (together (TranslateBuckets (slot_buckets (elements p) (entries l)) old new))))
  translation_impl_347 y g r =
      let f = yes_fits p l x old new db dx _ refl g y in
      (f.0, list_accepted p l x old new db dx _ refl g f.0 f.1 r)

  -- requires MutBucket.InvLseq(blist)
  -- the bucket isn't one whose entries rise (1, 2 or 14 then), or the index has no place for each bucket and the total, rising from 0 on
  pub translation_impl_431 : (InvLseq l x (length (slot_buckets (elements p) (entries l))) → ⊥) → RefusesAt Err (translate_index_causes p l x old new db dx) 7 WrongIndex (translate_index_answer p l x old new db dx)
  translation_impl_431 = translation_impl_345

  -- requires forall i | 0 <= i < |blist| :: WillFitInPkv(blist[i], prefix, newPrefix)
  -- a kept key of one bucket would pass 64 bytes
  pub translation_impl_432 : (i : ℕ) → i < length (slot_buckets (elements p) (entries l)) → TranslateBucketWillFit (get_or (slot_buckets (elements p) (entries l)) i []) old new ≡ false
      → RefusesAt Err (translate_index_causes p l x old new db dx) 8 TooLong (translate_index_answer p l x old new db dx)
  translation_impl_432 = long_refused p l x old new db dx _ refl

  -- requires forall i | 0 <= i < |blist| :: WillFitInPkv(blist[i], prefix, newPrefix)
  -- a destination would not hold the entries kept of all buckets, or the places
  pub translation_impl_432b : (length db < length (together (TranslateBuckets (slot_buckets (elements p) (entries l)) old new)) * entry_size) ⊎ (length dx < length (elements p) * place_size)
      → RefusesAt Err (translate_index_causes p l x old new db dx) 9 NoRoom (translate_index_answer p l x old new db dx)
  translation_impl_432b = full_refused p l x old new db dx _ refl

  -- requires bucket.Inv()
  -- the bucket isn't whole entries, has more than 512, or a record that is no key's
  pub translation_impl_460 : Inv l ≡ false → Refuses Err 2 (translate_index_answer p l x old new db dx)
  translation_impl_460 = bucket_refused (too_long old || too_long new) false p l x _ _

  -- requires WillFitInPkv(bucket, prefix, newPrefix)
  -- a kept key would pass 64 bytes
  pub translation_impl_461 : TranslateBucketWillFit (entries l) old new ≡ false → RefusesAt Err (translate_index_causes p l x old new db dx) 8 TooLong (translate_index_answer p l x old new db dx)
  unfolding given_causes entries_causes paired pivot_causes bucket_causes
  translation_impl_461 h = refuses_at _ _ (translate_index_causes p l x old new db dx) 8 _ _ _ refl (not_fails _ h)

  -- requires WillFitInPkv(bucket, prefix, newPrefix)
  -- a destination would not hold the entries kept, or the places, one and the total
  pub translation_impl_461b : length (elements p) ≡ 2 → (length db < length (TranslateBucket (entries l) old new) * entry_size) ⊎ (length dx < 2 * place_size)
      → RefusesAt Err (translate_index_causes p l x old new db dx) 9 NoRoom (translate_index_answer p l x old new db dx)
  unfolding given_causes entries_causes paired pivot_causes bucket_causes needed_bytes
  translation_impl_461b e h =
      refuses_at _ _ (translate_index_causes p l x old new db dx) 9 _ _ _ refl
      (⊎_elim (λ g. or_left (no_room (needed_bytes l old new) db) (no_room (length (elements p) * place_size) dx) (lt-ltb (length db) (length (TranslateBucket (entries l) old new) * entry_size) g)) (λ g. or_right (no_room (needed_bytes l old new) db) (no_room (length (elements p) * place_size) dx) (lt-ltb (length dx) (length (elements p) * place_size) (rw e g))) h)

-- a list that is translated
module _ (p l x : List ℕ) (old new : Key) (l' x' : List ℕ) (t : TranslatesIndex p l x old new l' x') where
  -- ensures MutBucket.InvLseq(blist')
  -- what is left is a bucket whose entries rise, and a place for each bucket, from 0 on, and the total
  pub translation_impl_433 : InvLseq l' x' (length (slot_buckets (elements p) (entries l)))
  translation_impl_433 = list_passes p l x old new l' x' t

  -- ensures MutBucket.ILseq(blist') == TranslateBuckets(MutBucket.ILseq(blist), prefix, newPrefix)
  pub translation_impl_434 : ILseq l' x' (TranslateBuckets (slot_buckets (elements p) (entries l)) old new)
  translation_impl_434 = list_translated p l x old new l' x' t

  module _ (n : length (elements p) ≡ 2) where
    -- ensures MutBucket.InvLseq(blist)
    -- by a table of two pivots: one bucket, its place 0 and the total
    pub translation_impl_462 : InvLseq l' x' 1
    translation_impl_462 = let e : length (slot_buckets (elements p) (entries l)) ≡ 1 = slots_count (elements p) (entries l) ∙ rw n (omega arith) in rw e at translation_impl_433

    -- ensures MutBucket.ILseq(blist) == TranslateBuckets([bucket.I()], prefix, newPrefix)
    -- by a table of two pivots
    pub translation_impl_463 : ILseq l' x' (TranslateBuckets (entries l ∷ []) old new)
    translation_impl_463 = rw (list_alone p l x old new l' x' t n) at translation_impl_434

-- ensures MutBucket.ILseq(blist) == TranslateBuckets([bucket.I()], prefix, newPrefix)
-- every bucket is inside the first table, and is its one slot's
pub translation_impl_463b : (b : Bucket) → (entries_inside InitPivotTable b ≡ true) × (slot_buckets InitPivotTable b ≡ b ∷ [])
unfolding entries_inside
translation_impl_463b b =
    let i = inside_all (λ (e : Entry). BoundedKey InitPivotTable e.key) b (record { key = []; number = [] }) (λ j h. contains_all_bounded InitPivotTable _ init_all) in
    (i, slots_alone InitPivotTable b (wf_sorted InitPivotTable init_wf) (unfold InitPivotTable in refl) i)
