-- TranslationImpl, lines 471 to 530: lists of buckets that are cut and then put under another prefix. As lists they are bucket and index (W5).
use Rattle.std.specs.Prelude.{Ok, Err}
use mathlib.Core.Path.{◌≡◌, refl, ◌∙◌}
use mathlib.Core.Bool.{true, false, not, ◌&&◌}
use mathlib.Core.List.{List, [], ◌∷◌, ◌++◌}
use mathlib.Core.Logic.{◌⊎◌}
use Prim.Native.Nat.{ℕ, suc, ◌+◌, ◌*◌, ◌-◌, ◌≤◌, ◌<◌}
use native.Mathlib.Omega.{arith}
use lib.ListN.{length, take, drop, get_or, length-append, length-drop, get_or-append}
use lib.Seq.{length-take-le, get_or-take, get_or-drop, get_or_at}
use Rattle.model.specs.declared.Refusal.TheVariants.{Shape, OutOfRange, TooLong, NoRoom, WrongIndex}
use Rattle.model.specs.keys.Key.{Key, max_len, too_long}
use Rattle.model.specs.keys.Order.{key, lt}
use Rattle.model.specs.records.Record.{elements}
use Rattle.model.specs.tables.Tables.{max_pivots, BoundedKey, ValidLeftCutOffKey, CutoffForLeft, CutoffForRight}
use Rattle.model.specs.cuts.Cuts.{SplitLeft}
use Rattle.model.specs.buckets.Bucket.{Bucket, entry_size, entries, TranslateBuckets}
use Rattle.model.specs.buckets.Index.{entries_below, entries_from, slot_entries, slot_buckets, together, place_size}
use Rattle.model.specs.calls.IndexCalls.{cut_index_causes, cut_index_answer, translate_index_causes, translate_index_answer}
use Rattle.model.proofs.tables.Routing.{cutoff_left_inside}
use Rattle.model.proofs.cuts.Cuts.{split_left_bounded}
use Rattle.model.proofs.buckets.SlotBuckets.{slots_count}
use Rattle.model.proofs.buckets.CutSlots.{right_there, slots_right, node_order, slots_node, slots_one}
use Rattle.model.proofs.calls.Refusals.{not_fails, or_neither}
use Rattle.model.proofs.calls.TableCalls.{not_too_long}
use Rattle.contracts.specs.Refuses.{RefusesAt, Refuses}
use Rattle.contracts.specs.BucketLists.{TranslateBucketWillFit, TranslateBucketsWillFit, Inv, ILseq, InvLseq, keep_right, cut_node, CutsIndex, TranslatesIndex}
use Rattle.contracts.proofs.ListsLent.{list_unsound, bucket_refused, many_refused, outside_refused, long_refused, full_refused, list_accepted}
use Rattle.contracts.proofs.ListsLeft.{list_translated, list_passes, cut_made, cut_given}

-- ---- ComputeTranslateCutOffKeepRightBuckets: a right cut at k, and the translation of what it leaves

-- lent any bytes
module _ (p l x : List ℕ) (k : Key) (db dx : List ℕ) where
  -- requires bucket.Inv()
  -- the bucket that is cut isn't whole entries, has more than 512, or a record that is no key's
  pub translation_impl_473 : Inv l ≡ false → Refuses Err 2 (cut_index_answer false p l x k db dx)
  translation_impl_473 = bucket_refused (too_long k) (not (BoundedKey (elements p) k)) p l x _ _

  -- requires MutBucket.InvLseq(blist)
  -- the bucket isn't one whose entries rise (1, 2 or 14 then), or the index has no place for each bucket and the total, rising from 0 on
  pub translation_impl_474 : (InvLseq l x (length (slot_buckets (elements p) (entries l))) → ⊥) → RefusesAt Err (cut_index_causes false p l x k db dx) 7 WrongIndex (cut_index_answer false p l x k db dx)
  translation_impl_474 = list_unsound (too_long k) (not (BoundedKey (elements p) k)) p l x _ _

  -- requires 0 <= cRight as int < |blist|
  -- the key is in no slot
  pub translation_impl_477 : BoundedKey (elements p) k ≡ false → RefusesAt Err (cut_index_causes false p l x k db dx) 6 OutOfRange (cut_index_answer false p l x k db dx)
  translation_impl_477 h = outside_refused (too_long k) (not (BoundedKey (elements p) k)) p l x _ _ (not_fails _ h)

  -- requires |blist| < 0x1_0000_0000_0000_0000
  -- there are at most 63 buckets
  pub translation_impl_478 : max_pivots ≤ length (slot_buckets (elements p) (entries l)) → RefusesAt Err (cut_index_causes false p l x k db dx) 0 Shape (cut_index_answer false p l x k db dx)
  translation_impl_478 = many_refused (too_long k) (not (BoundedKey (elements p) k)) p l x _ _

-- a list that is cut
module _ (p l x : List ℕ) (k : Key) (p' l' x' : List ℕ) (c : CutsIndex false p l x k p' l' x') where
  right_list : slot_buckets (elements p') (entries l') ≡ keep_right (elements p) (entries l) k
  right_list =
      let m = cut_made false p l x k p' l' x' c in
      rw (m.pivots, m.bucket) (slots_right (elements p) k (entries l) m.wf m.rises m.short m.cuts)

  -- requires 0 <= cRight as int < |blist|
  -- the slot that is cut is one of the table's
  pub translation_impl_477b : CutoffForRight (elements p) k < length (slot_buckets (elements p) (entries l))
  translation_impl_477b =
      let m = cut_made false p l x k p' l' x' c in
      rw (slots_count (elements p) (entries l)) (right_there (elements p) k (entries l) m.wf m.rises m.short m.cuts)

  module _ (old new : Key) (db dx : List ℕ) where
    -- requires WillFitInPkv(bucket, prefix, newPrefix)
    -- a kept key of the cut bucket would pass 64 bytes
    pub translation_impl_475 : TranslateBucketWillFit (entries_from (key k) (slot_entries (elements p) (entries l) (CutoffForRight (elements p) k))) old new ≡ false
        → RefusesAt Err (translate_index_causes p' l' x' old new db dx) 8 TooLong (translate_index_answer p' l' x' old new db dx)
    translation_impl_475 = long_refused p' l' x' old new db dx _ right_list 0 (omega arith)

    -- requires WillFitInPkv(bucket, prefix, newPrefix)
    -- a destination would not hold the entries kept of the cut bucket and of those after it, or the places
    pub translation_impl_475b : (length db < length (together (TranslateBuckets (keep_right (elements p) (entries l) k) old new)) * entry_size) ⊎ (length dx < length (elements p') * place_size)
        → RefusesAt Err (translate_index_causes p' l' x' old new db dx) 9 NoRoom (translate_index_answer p' l' x' old new db dx)
    translation_impl_475b = full_refused p' l' x' old new db dx _ right_list

    -- requires forall i | 0 <= i < |blist| :: WillFitInPkv(blist[i], prefix, newPrefix)
    -- a kept key of a bucket after the cut one would pass 64 bytes
    pub translation_impl_476 : (i : ℕ) → CutoffForRight (elements p) k < i → i < length (slot_buckets (elements p) (entries l)) → TranslateBucketWillFit (get_or (slot_buckets (elements p) (entries l)) i []) old new ≡ false
        → RefusesAt Err (translate_index_causes p' l' x' old new db dx) 8 TooLong (translate_index_answer p' l' x' old new db dx)
    translation_impl_476 i a h f =
        let n = CutoffForRight (elements p) k + 1 in
        let j = i - n in
        let e : n + j ≡ i = omega arith in
        let g : get_or (drop n (slot_buckets (elements p) (entries l))) j [] ≡ get_or (slot_buckets (elements p) (entries l)) i [] = get_or-drop n (slot_buckets (elements p) (entries l)) j [] ∙ rw e in
        long_refused p' l' x' old new db dx _ right_list (suc j) (omega (arith, length-drop n (slot_buckets (elements p) (entries l)))) (rw g f)

    -- requires forall i | 0 <= i < |blist| :: WillFitInPkv(blist[i], prefix, newPrefix)
    -- else the translation is accepted
    pub translation_impl_476b : length old ≤ max_len → length new ≤ max_len → TranslateBucketsWillFit (keep_right (elements p) (entries l) k) old new
        → length (together (TranslateBuckets (keep_right (elements p) (entries l) k) old new)) * entry_size ≤ length db → length (elements p') * place_size ≤ length dx
        → translate_index_answer p' l' x' old new db dx ≡ Ok (length (together (TranslateBuckets (keep_right (elements p) (entries l) k) old new)))
    translation_impl_476b s t f a d =
        list_accepted p' l' x' old new db dx _ right_list (cut_given false p l x k p' l' x' c _ (or_neither _ _ (not_too_long old s) (not_too_long new t))) f a d

  module _ (old new : Key) (l'' x'' : List ℕ) (t : TranslatesIndex p' l' x' old new l'' x'') where
    -- ensures MutBucket.InvLseq(blist')
    -- what is left is a bucket whose entries rise, and a place for each bucket, from 0 on, and the total
    pub translation_impl_479 : InvLseq l'' x'' (length (keep_right (elements p) (entries l) k))
    translation_impl_479 = rw right_list at (list_passes p' l' x' old new l'' x'' t)

    -- ensures MutBucket.ILseq(blist') == TranslateBuckets([bucket.I()]+ MutBucket.ILseq(blist)[cRight+1..], prefix, newPrefix)
    -- bucket is the cut slot's entries from the key on
    pub translation_impl_480 : ILseq l'' x''
        (TranslateBuckets (entries_from (key k) (slot_entries (elements p) (entries l) (CutoffForRight (elements p) k)) ∷ drop (CutoffForRight (elements p) k + 1) (slot_buckets (elements p) (entries l))) old new)
    translation_impl_480 = rw right_list at (list_translated p' l' x' old new l'' x'' t)

-- ---- ComputeTranslateCutOffNodeBuckets: a left cut at r, a right cut at k of what it leaves, and the translation of what that leaves

-- lent any bytes
module _ (p l x : List ℕ) (db dx : List ℕ) where
  -- requires left.Inv()
  -- the bucket of which the right cut is made isn't whole entries, has more than 512, or a record that is no key's
  pub translation_impl_500 : (k : Key) → Inv l ≡ false → Refuses Err 2 (cut_index_answer false p l x k db dx)
  translation_impl_500 k = translation_impl_473 p l x k db dx

  module _ (r : Key) where
    -- requires right.Inv()
    -- the bucket of which the left cut is made isn't whole entries, has more than 512, or a record that is no key's
    pub translation_impl_501 : Inv l ≡ false → Refuses Err 2 (cut_index_answer true p l x r db dx)
    translation_impl_501 = bucket_refused (too_long r) (not (ValidLeftCutOffKey (elements p) r)) p l x _ _

    -- requires MutBucket.InvLseq(blist)
    -- the bucket isn't one whose entries rise (1, 2 or 14 then), or the index has no place for each bucket and the total, rising from 0 on
    pub translation_impl_502 : (InvLseq l x (length (slot_buckets (elements p) (entries l))) → ⊥) → RefusesAt Err (cut_index_causes true p l x r db dx) 7 WrongIndex (cut_index_answer true p l x r db dx)
    translation_impl_502 = list_unsound (too_long r) (not (ValidLeftCutOffKey (elements p) r)) p l x _ _

    -- requires 0 <= cRight as int < cLeft as int < |blist|
    -- the key of the left cut is in no slot
    pub translation_impl_503 : ValidLeftCutOffKey (elements p) r ≡ false → RefusesAt Err (cut_index_causes true p l x r db dx) 6 OutOfRange (cut_index_answer true p l x r db dx)
    translation_impl_503 h = outside_refused (too_long r) (not (ValidLeftCutOffKey (elements p) r)) p l x _ _ (not_fails _ h)

    -- requires |blist| < 0x1_0000_0000_0000_0000
    -- there are at most 63 buckets
    pub translation_impl_507 : max_pivots ≤ length (slot_buckets (elements p) (entries l)) → RefusesAt Err (cut_index_causes true p l x r db dx) 0 Shape (cut_index_answer true p l x r db dx)
    translation_impl_507 = many_refused (too_long r) (not (ValidLeftCutOffKey (elements p) r)) p l x _ _

-- a list that is cut on the left
module _ (p l x : List ℕ) (r : Key) (p' l' x' : List ℕ) (c : CutsIndex true p l x r p' l' x') (k : Key) where
  -- requires 0 <= cRight as int < cLeft as int < |blist|
  -- the key of the right cut is in no slot of the old table, or not below that of the left one
  pub translation_impl_503b : (BoundedKey (elements p) k && lt (key k) (key r)) ≡ false → (db dx : List ℕ)
      → RefusesAt Err (cut_index_causes false p' l' x' k db dx) 6 OutOfRange (cut_index_answer false p' l' x' k db dx)
  translation_impl_503b h db dx =
      let m = cut_made true p l x r p' l' x' c in
      translation_impl_477 p' l' x' k db dx (rw m.pivots (split_left_bounded (elements p) r m.wf m.cuts k ∙ h))

  -- and then on the right
  module _ (p'' l'' x'' : List ℕ) (d : CutsIndex false p' l' x' k p'' l'' x'') where
    bounded : BoundedKey (SplitLeft (elements p) r) k ≡ true
    bounded = rw (cut_made true p l x r p' l' x' c).pivots at (cut_made false p' l' x' k p'' l'' x'' d).cuts

    -- requires 0 <= cRight as int < cLeft as int < |blist|
    -- the slot of the right cut isn't after that of the left one, which is one of the table's
    pub translation_impl_503c : (CutoffForRight (elements p) k ≤ CutoffForLeft (elements p) r) × (CutoffForLeft (elements p) r < length (slot_buckets (elements p) (entries l)))
    translation_impl_503c =
        let m = cut_made true p l x r p' l' x' c in
        let s = (cut_made false p' l' x' k p'' l'' x'' d).short in (
          node_order (elements p) k r (entries l) m.wf m.rises s m.short m.cuts bounded,
          rw (slots_count (elements p) (entries l)) (cutoff_left_inside (elements p) r m.wf m.cuts),
        )

    -- requires 0 <= cRight as int < cLeft as int < |blist|
    -- where both cuts are in one slot, the list is one bucket: that slot's entries from the one key on, below the other
    pub translation_impl_503d : CutoffForRight (elements p) k ≡ CutoffForLeft (elements p) r
        → slot_buckets (elements p'') (entries l'') ≡ entries_from (key k) (entries_below (key r) (slot_entries (elements p) (entries l) (CutoffForLeft (elements p) r))) ∷ []
    translation_impl_503d e =
        let m = cut_made true p l x r p' l' x' c in
        let n = cut_made false p' l' x' k p'' l'' x'' d in
        rw (n.pivots, n.bucket, m.pivots, m.bucket) (slots_one (elements p) k r (entries l) m.wf m.rises n.short m.short m.cuts bounded e)

    module _ (h : CutoffForRight (elements p) k < CutoffForLeft (elements p) r) where
      node_list : slot_buckets (elements p'') (entries l'') ≡ cut_node (elements p) (entries l) k r
      node_list =
          let m = cut_made true p l x r p' l' x' c in
          let n = cut_made false p' l' x' k p'' l'' x'' d in
          rw (n.pivots, n.bucket, m.pivots, m.bucket) (slots_node (elements p) k r (entries l) m.wf m.rises n.short m.short m.cuts bounded h)

      -- the buckets between the two that are cut
      abbrev middle : List Bucket
      middle = drop (CutoffForRight (elements p) k + 1) (take (CutoffForLeft (elements p) r) (slot_buckets (elements p) (entries l)))

      middle_count : length middle ≡ CutoffForLeft (elements p) r - (CutoffForRight (elements p) k + 1)
      middle_count =
          let n = length-take-le (CutoffForLeft (elements p) r) (slot_buckets (elements p) (entries l)) (omega (arith, translation_impl_503c.1)) in
          length-drop (CutoffForRight (elements p) k + 1) (take (CutoffForLeft (elements p) r) (slot_buckets (elements p) (entries l))) ∙ rw n

      module _ (old new : Key) (db dx : List ℕ) where
        -- requires WillFitInPkv(left, prefix, newPrefix)
        -- a kept key of the bucket cut on the right would pass 64 bytes
        pub translation_impl_504 : TranslateBucketWillFit (entries_from (key k) (slot_entries (elements p) (entries l) (CutoffForRight (elements p) k))) old new ≡ false
            → RefusesAt Err (translate_index_causes p'' l'' x'' old new db dx) 8 TooLong (translate_index_answer p'' l'' x'' old new db dx)
        translation_impl_504 = long_refused p'' l'' x'' old new db dx _ node_list 0 (omega arith)

        -- requires WillFitInPkv(left, prefix, newPrefix)
        -- a destination would not hold the entries kept of both cut buckets and of those between them, or the places
        pub translation_impl_504b : (length db < length (together (TranslateBuckets (cut_node (elements p) (entries l) k r) old new)) * entry_size) ⊎ (length dx < length (elements p'') * place_size)
            → RefusesAt Err (translate_index_causes p'' l'' x'' old new db dx) 9 NoRoom (translate_index_answer p'' l'' x'' old new db dx)
        translation_impl_504b = full_refused p'' l'' x'' old new db dx _ node_list

        -- requires WillFitInPkv(right, prefix, newPrefix)
        -- a kept key of the bucket cut on the left would pass 64 bytes
        pub translation_impl_505 : TranslateBucketWillFit (entries_below (key r) (slot_entries (elements p) (entries l) (CutoffForLeft (elements p) r))) old new ≡ false
            → RefusesAt Err (translate_index_causes p'' l'' x'' old new db dx) 8 TooLong (translate_index_answer p'' l'' x'' old new db dx)
        translation_impl_505 f =
            let a = entries_from (key k) (slot_entries (elements p) (entries l) (CutoffForRight (elements p) k)) in
            let b = entries_below (key r) (slot_entries (elements p) (entries l) (CutoffForLeft (elements p) r)) in
            let e : get_or ((a ∷ middle) ++ (b ∷ [])) (length (a ∷ middle)) [] ≡ b = get_or_at (a ∷ middle) b [] [] (length (a ∷ middle)) refl in
            long_refused p'' l'' x'' old new db dx _ node_list (length (a ∷ middle)) (omega (arith, length-append (a ∷ middle) (b ∷ []))) (rw e f)

        -- requires forall i | cRight as int+1 <= i < cLeft as int :: WillFitInPkv(blist[i], prefix, newPrefix)
        -- a kept key of a bucket between them would pass 64 bytes
        pub translation_impl_506 : (i : ℕ) → CutoffForRight (elements p) k + 1 ≤ i → i < CutoffForLeft (elements p) r → TranslateBucketWillFit (get_or (slot_buckets (elements p) (entries l)) i []) old new ≡ false
            → RefusesAt Err (translate_index_causes p'' l'' x'' old new db dx) 8 TooLong (translate_index_answer p'' l'' x'' old new db dx)
        translation_impl_506 i u v f =
            let a = entries_from (key k) (slot_entries (elements p) (entries l) (CutoffForRight (elements p) k)) in
            let b = entries_below (key r) (slot_entries (elements p) (entries l) (CutoffForLeft (elements p) r)) in
            let blist = slot_buckets (elements p) (entries l) in
            let n = CutoffForRight (elements p) k + 1 in
            let j = i - n in
            let w : n + j ≡ i = omega arith in
            let m = middle_count in
            let e : get_or ((a ∷ middle) ++ (b ∷ [])) (suc j) [] ≡ get_or blist i [] =
            get_or-append (a ∷ middle) (b ∷ []) [] (suc j) (omega arith) ∙ get_or-drop n (take (CutoffForLeft (elements p) r) blist) j [] ∙ rw w (get_or-take (CutoffForLeft (elements p) r) blist i [] v) in
            long_refused p'' l'' x'' old new db dx _ node_list (suc j) (omega (arith, length-append (a ∷ middle) (b ∷ []))) (rw e f)

        -- requires forall i | cRight as int+1 <= i < cLeft as int :: WillFitInPkv(blist[i], prefix, newPrefix)
        -- else the translation is accepted
        pub translation_impl_506b : length old ≤ max_len → length new ≤ max_len → TranslateBucketsWillFit (cut_node (elements p) (entries l) k r) old new
            → length (together (TranslateBuckets (cut_node (elements p) (entries l) k r) old new)) * entry_size ≤ length db → length (elements p'') * place_size ≤ length dx
            → translate_index_answer p'' l'' x'' old new db dx ≡ Ok (length (together (TranslateBuckets (cut_node (elements p) (entries l) k r) old new)))
        translation_impl_506b s t f a b =
            list_accepted p'' l'' x'' old new db dx _ node_list (cut_given false p' l' x' k p'' l'' x'' d _ (or_neither _ _ (not_too_long old s) (not_too_long new t))) f a b

      module _ (old new : Key) (m y : List ℕ) (t : TranslatesIndex p'' l'' x'' old new m y) where
        -- ensures MutBucket.InvLseq(blist')
        -- what is left is a bucket whose entries rise, and a place for each bucket, from 0 on, and the total
        pub translation_impl_508 : InvLseq m y (length (cut_node (elements p) (entries l) k r))
        translation_impl_508 = rw node_list at (list_passes p'' l'' x'' old new m y t)

        -- ensures MutBucket.ILseq(blist') == TranslateBuckets([left.I()]+ MutBucket.ILseq(blist)[cRight+1..cLeft] + [right.I()], prefix, newPrefix)
        -- left is the one cut slot's entries from k on, right the other's below r
        pub translation_impl_509 : ILseq m y
            (TranslateBuckets
            ((entries_from (key k) (slot_entries (elements p) (entries l) (CutoffForRight (elements p) k)) ∷ drop (CutoffForRight (elements p) k + 1) (take (CutoffForLeft (elements p) r) (slot_buckets (elements p) (entries l))))
            ++ (entries_below (key r) (slot_entries (elements p) (entries l) (CutoffForLeft (elements p) r)) ∷ [])) old new)
        translation_impl_509 = rw node_list at (list_translated p'' l'' x'' old new m y t)
