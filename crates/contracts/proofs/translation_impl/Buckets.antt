-- TranslationImpl, lines 285 to 428: a bucket under another prefix, and whether it will fit.
use Rattle.std.specs.Prelude.{Ok, Err}
use mathlib.Core.Path.{◌≡◌, refl, ◌∙◌}
use mathlib.Core.Bool.{Bool, true, false, cond, not, ◌&&◌, ◌||◌}
use mathlib.Core.List.{List, [], ◌∷◌, ◌++◌, append-nil}
use mathlib.Core.Logic.{◌⊎◌, ⊎_elim}
use mathlib.Core.Option.{none, some}
use Prim.Native.Nat.{ℕ, ◌+◌, ◌*◌, ◌-◌, ◌≤◌, ◌<◌}
use native.Mathlib.Omega.{arith}
use borrow.Author.Tests.{le-leb, lt-leb, le-ltb, lt-ltb}
use lib.Dec.{leb, ltb}
use lib.ListN.{length, take, get_or}
use Rattle.model.specs.declared.Refusal.TheVariants.{TooLong, NoRoom}
use Rattle.model.specs.keys.Key.{Key, max_len, too_long, IsPrefix}
use Rattle.model.specs.tables.Tables.{all}
use Rattle.model.specs.buckets.Bucket.{Entry, Bucket, entry_size, max_entries, entries, encode_bucket, translate_entry, TranslateBucket, sized_entry}
use Rattle.model.specs.calls.Refusals.{outcome, first, over}
use Rattle.model.specs.calls.BucketCalls.{bucket_causes, short_entry, needed_bytes, rename_causes, translate_bucket_causes, translate_bucket_answer, translate_bucket_leaves, will_fit_answer}
use Rattle.model.proofs.Lists.{le_or_lt}
use Rattle.model.proofs.calls.TableCalls.{not_too_long}
use Rattle.model.proofs.calls.BucketCalls.{bucket_wrong, renamed_passes, written_bucket, no_refused, eight_no, ten_no, yes_accepted}
use Rattle.model.proofs.buckets.Entries.{entries-encode_bucket}
use Rattle.model.proofs.buckets.Renamed.{simple_most, simple_next}
use Rattle.model.proofs.calls.Refusals.{not_fails}
use Rattle.contracts.specs.Refuses.{RefusesAt, Refuses}
use Rattle.contracts.specs.BucketLists.{TranslateBucketWillFit, WillFitInPkv, Inv}
use Rattle.contracts.specs.Translation.{TranslateBucketSimple}
use Rattle.contracts.proofs.Refusing.{refuses_at, Refused, clause_refused, more_refused, call_refuses}
use Rattle.contracts.proofs.Lent.{accepted, go_on}
use Rattle.contracts.proofs.ListsLent.{inv_is}

-- an entry added at the end where a test holds
add_where : (t : Bool) (a : Bucket) (x : Entry) → a ++ cond t (x ∷ []) [] ≡ cond t (a ++ (x ∷ [])) a
add_where true a x = refl
add_where false a x = append-nil a

-- where no cause of a bucket applies, and no other argument has cause 2, none of the bucket alone does
right_bucket : (wrong : Bool) (l : List ℕ) → first (bucket_causes wrong l) ≡ none → first (bucket_causes false l) ≡ none
right_bucket wrong l h = rw (bucket_wrong wrong l h) at h

module _ (b : Bucket) (p q : Key) where
  -- function {:opaque} TranslateBucketSimple(bucket: Bucket, prefix: Key, newPrefix: Key, i: nat) : (result: Bucket)
  pub translation_impl_285 : (TranslateBucketSimple b p q 0 ≡ [])
      × ((i : ℕ) (d : Entry) → 0 < i → i ≤ length b
      → TranslateBucketSimple b p q i
      ≡ cond (IsPrefix p (get_or b (i - 1) d).key) (TranslateBucketSimple b p q (i - 1) ++ (translate_entry p q (get_or b (i - 1) d) ∷ [])) (TranslateBucketSimple b p q (i - 1)))
  unfolding TranslateBucket
  translation_impl_285 = (refl, λ i d h l. next i d (i - 1) (omega arith) l)
    where
      next : (i : ℕ) (d : Entry) (j : ℕ) → j + 1 ≡ i → i ≤ length b
          → TranslateBucket (take i b) p q ≡ cond (IsPrefix p (get_or b j d).key) (TranslateBucket (take j b) p q ++ (translate_entry p q (get_or b j d) ∷ [])) (TranslateBucket (take j b) p q)
      next i d j e l = (rw e at (simple_next b p q j d (omega arith))) ∙ add_where (IsPrefix p (get_or b j d).key) (TranslateBucket (take j b) p q) (translate_entry p q (get_or b j d))

  -- ensures |result.keys| <= i
  pub translation_impl_288 : (i : ℕ) → i ≤ length b → length (TranslateBucketSimple b p q i) ≤ i
  translation_impl_288 = simple_most b p q

-- lent any bytes
module _ (l : List ℕ) (p q : Key) (d : List ℕ) where
  -- where neither cause 1 nor cause 2 applies, the bucket is one
  inv_lent : first (rename_causes l p q) ≡ none → Inv l ≡ true
  inv_lent n = (inv_is l).1 (right_bucket (too_long p || too_long q) l n)

  renaming_refused : Inv l ≡ false → Refused 2 (rename_causes l p q)
  unfolding bucket_causes
  renaming_refused = clause_refused 2 (rename_causes l p q) (Inv l) refl inv_lent

  -- requires mbucket.Inv()
  -- the bucket isn't whole entries, has more than 512, or a record that is no key's
  pub translation_impl_329 : (n : ℕ) → Inv l ≡ false → Refuses Err 2 (will_fit_answer l p q n)
  translation_impl_329 n h = call_refuses Err _ 2 (rename_causes l p q) (renaming_refused h)

  -- requires mbucket.Inv()
  -- the bucket isn't whole entries, has more than 512, or a record that is no key's
  pub translation_impl_390 : Inv l ≡ false → Refuses Err 2 (translate_bucket_answer l p q d)
  translation_impl_390 h = call_refuses Err _ 2 (translate_bucket_causes l p q d) (more_refused 2 (rename_causes l p q) _ (renaming_refused h))

  -- ensures b == TranslateBucketWillFit(mbucket.I(), prefix, newPrefix)
  -- it says no exactly where the renaming, into so long a destination, is refused with 8 or 10
  pub translation_impl_330 : (will_fit_answer l p q (length d) ≡ Ok false
      → (translate_bucket_answer l p q d ≡ Err TooLong) ⊎ (translate_bucket_answer l p q d ≡ Err NoRoom))
      × ((translate_bucket_answer l p q d ≡ Err TooLong) ⊎ (translate_bucket_answer l p q d ≡ Err NoRoom) → will_fit_answer l p q (length d) ≡ Ok false)
  translation_impl_330 = (no_refused l p q d, ⊎_elim (eight_no l p q d) (ten_no l p q d))

  -- ensures b ==> WillFitInPkv(mbucket, prefix, newPrefix)
  -- where it says yes, the renaming is accepted
  pub translation_impl_331 : will_fit_answer l p q (length d) ≡ Ok true → translate_bucket_answer l p q d ≡ Ok (length (TranslateBucket (entries l) p q))
  translation_impl_331 = yes_accepted l p q d

  -- requires WillFitInPkv(mbucket, prefix, newPrefix);
  -- a kept key would pass 64 bytes
  pub translation_impl_391 : TranslateBucketWillFit (entries l) p q ≡ false → RefusesAt Err (translate_bucket_causes l p q d) 2 TooLong (translate_bucket_answer l p q d)
  unfolding bucket_causes
  translation_impl_391 h = refuses_at _ _ (translate_bucket_causes l p q d) 2 _ _ _ refl (not_fails _ h)

  -- requires WillFitInPkv(mbucket, prefix, newPrefix);
  -- the destination would not hold the entries kept
  pub translation_impl_391b : length d < length (TranslateBucket (entries l) p q) * entry_size → RefusesAt Err (translate_bucket_causes l p q d) 3 NoRoom (translate_bucket_answer l p q d)
  unfolding bucket_causes needed_bytes
  translation_impl_391b h = refuses_at _ _ (translate_bucket_causes l p q d) 3 _ _ _ refl (lt-ltb (length d) (length (TranslateBucket (entries l) p q) * entry_size) h)

  -- ensures mbucket'.Inv()
  -- what an accepted call leaves passes the check of a bucket
  pub translation_impl_392 : (n : ℕ) → translate_bucket_answer l p q d ≡ Ok n → Inv (take (n * entry_size) (translate_bucket_leaves l p q d)) ≡ true
  translation_impl_392 n h = (inv_is (take (n * entry_size) (translate_bucket_leaves l p q d))).1 (renamed_passes l p q d n h)

-- neither 8 nor 10
pub neither : (a : Bool) (m n : ℕ) → not (not a || ltb n m) ≡ (a && leb m n)
neither false m n = refl
neither true m n = ⊎_elim (λ h. rw (le-ltb n m h, le-leb m n h)) (λ h. rw (lt-ltb n m h, lt-leb m n h)) (le_or_lt m n)

-- lent the entries of a bucket
module _ (b : Bucket) (z : all sized_entry b ≡ true) (m : length b ≤ max_entries) (p q : Key) (s : length p ≤ max_len) (t : length q ≤ max_len) where
  rename_lent : first (rename_causes (encode_bucket b) p q) ≡ none
  rename_lent = rw (not_too_long p s, not_too_long q t) (written_bucket b z m)

  -- ensures b == TranslateBucketWillFit(mbucket.I(), prefix, newPrefix)
  -- no kept key passes 64 bytes, and n bytes hold the entries kept
  pub translation_impl_330b : (n : ℕ) → will_fit_answer (encode_bucket b) p q n ≡ Ok (WillFitInPkv b p q n)
  unfolding needed_bytes
  translation_impl_330b n = accepted _ _ (rename_causes (encode_bucket b) p q) rename_lent ∙ rw (entries-encode_bucket b z, neither (all short_entry (TranslateBucket b p q)) (length (TranslateBucket b p q) * entry_size) n)

  -- ensures mbucket'.I() == TranslateBucket(mbucket.I(), prefix, newPrefix)
  pub translation_impl_393 : (d : List ℕ) → TranslateBucketWillFit b p q ≡ true → length (TranslateBucket b p q) * entry_size ≤ length d
      → (translate_bucket_answer (encode_bucket b) p q d ≡ Ok (length (TranslateBucket b p q)))
      × (translate_bucket_leaves (encode_bucket b) p q d ≡ over (encode_bucket (TranslateBucket b p q)) d)
  unfolding outcome needed_bytes
  translation_impl_393 d k room =
      let c = translate_bucket_causes (encode_bucket b) p q d in
      let n : first c ≡ none = go_on some none (rename_causes (encode_bucket b) p q) _ rename_lent ∙ rw (entries-encode_bucket b z, k, le-ltb (length d) (length (TranslateBucket b p q) * entry_size) room) in
      (accepted _ _ c n ∙ rw (entries-encode_bucket b z), accepted _ _ c n ∙ rw (entries-encode_bucket b z))
