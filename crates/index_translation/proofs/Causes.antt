-- What translate_index answers and leaves, by what its steps do: the check, the room of the index, the bucket's translation, and the new places.
use Rattle.std.specs.Prelude.{Result, Ok, Err}
use mathlib.Core.Path.{◌≡◌, refl, sym, ap, ◌∙◌}
use mathlib.Core.Bool.{Bool, true, false, cond, not, ◌||◌, or-true, or-false}
use mathlib.Core.List.{List, [], ◌∷◌, map}
use mathlib.Core.Option.{none}
use Prim.Native.Nat.{ℕ, ◌*◌, ◌≤◌, ◌<◌}
use native.Mathlib.Omega.{arith}
use borrow.Author.Tests.{lt-ltb, le-ltb}
use lib.ListN.{length, take}
use Rattle.model.specs.declared.Refusal.{Refusal}
use Rattle.model.specs.declared.Refusal.TheVariants.{TooLong, NoRoom}
use Rattle.model.specs.keys.Key.{Key, too_long}
use Rattle.model.specs.records.Record.{elements}
use Rattle.model.specs.buckets.Bucket.{entry_size, entries, encode_bucket, TranslateBucket}
use Rattle.model.specs.buckets.Index.{Index, TranslateIndex, place_size, encode_index, places}
use Rattle.model.specs.calls.Refusals.{◌⇒◌, outcome, first, answer, over}
use Rattle.model.specs.calls.KeyCalls.{no_room}
use Rattle.model.specs.calls.CutCalls.{room_causes}
use Rattle.model.specs.calls.BucketCalls.{bucket_causes, new_bucket, needed_bytes, bucket_long, bucket_full, rename_causes, translate_bucket_causes, translate_bucket_answer, translate_bucket_leaves, will_fit_answer}
use Rattle.model.specs.calls.IndexCalls.{entries_causes, given_causes, translate_index_causes, translate_index_answer, translate_index_leaves_bucket, translate_index_leaves_index}
use Rattle.model.proofs.calls.Refusals.{after, passed, accepted, handed_on, handed_on-first, call_passed}
use Rattle.model.proofs.calls.TableCalls.{causes_sorted}
use Rattle.model.proofs.calls.BucketCalls.{bucket_count, bucket_most, bucket_whole}
use Rattle.model.proofs.calls.TranslatedIndex.{given_rename}
use Rattle.model.proofs.calls.IndexCauses.{entries_pivots, entries_bucket, entries_rise_lem, given_entries, given_length, given_places}
use Rattle.model.proofs.buckets.Bucket.{translated_wft}
use Rattle.model.proofs.buckets.Index.{index_most, index_rises}
use Rattle.model.proofs.buckets.IndexTranslation.{translated_index}
use Rattle.index_translation.specs.Kept.{kept_before, new_places, Placed}
use Rattle.index_translation.proofs.Counting.{kept_is}

-- ---- the index has no room

-- 10 where it would fit, 8 where it wouldn't, and no other refusal
ten_is : (t : Bool) (x : Result Bool Refusal) → x ≡ Ok (not t) → x ≡ Ok true → NoRoom ≡ cond t TooLong NoRoom
ten_is true x e u = let z : ◌≡◌ {A = ℕ} 0 1 = cc in absurd (omega arith)
ten_is false x e u = refl

eight_is : (t : Bool) (x : Result Bool Refusal) → x ≡ Ok (not t) → x ≡ Ok false → TooLong ≡ cond t TooLong NoRoom
eight_is true x e u = refl
eight_is false x e u = let z : ◌≡◌ {A = ℕ} 0 1 = cc in absurd (omega arith)

none_is : (t : Bool) (x : Result Bool Refusal) (r : Refusal) → x ≡ Ok (not t) → x ≡ Err r → r ≡ cond t TooLong NoRoom
none_is true x r e u = let z : ◌≡◌ {A = ℕ} 0 1 = cc in absurd (omega arith)
none_is false x r e u = let z : ◌≡◌ {A = ℕ} 0 1 = cc in absurd (omega arith)

module _ (l : List ℕ) (p q : Key) (h : first (rename_causes l p q) ≡ none) where
  -- as many bytes as the bucket has are enough
  enough : bucket_full l p q (length l) ≡ false
  unfolding needed_bytes
  enough =
      let w = (translated_wft (entries l) p q 0 (omega arith)).at_most in
      le-ltb (length l) (length (new_bucket l p q) * entry_size) (omega (arith, bucket_count _ l h, bucket_whole _ l h))

  module _ (x : Result Bool Refusal) (f : x ≡ will_fit_answer l p q (length l)) where
    -- so it fits where no kept key is too long
    fit_is : x ≡ Ok (not (bucket_long l p q))
    fit_is =
        let v = Ok (not (bucket_long l p q || bucket_full l p q (length l))) in
        let u : x ≡ v = f ∙ sym (passed Err v v (rename_causes l p q) h refl) in
        u ∙ rw (enough, or-false)

    pub fits_ten : x ≡ Ok true → NoRoom ≡ cond (bucket_long l p q) TooLong NoRoom
    fits_ten u = ten_is (bucket_long l p q) x fit_is u

    pub fits_eight : x ≡ Ok false → TooLong ≡ cond (bucket_long l p q) TooLong NoRoom
    fits_eight u = eight_is (bucket_long l p q) x fit_is u

    pub fits_refused : (r : Refusal) → x ≡ Err r → r ≡ cond (bucket_long l p q) TooLong NoRoom
    fits_refused r u = none_is (bucket_long l p q) x r fit_is u

-- ---- the check

-- how many are kept before each of some places, by a translation of those entries
kept_all : (l : List ℕ) (p q : Key) (ns : List ℕ) → map (kept_before l p) ns ≡ map (λ (n : ℕ). length (TranslateBucket (take n (entries l)) p q)) ns
kept_all l p q [] = refl
kept_all l p q (n ∷ ns) = rw (kept_is l p q n) (ap (◌∷◌ (length (TranslateBucket (take n (entries l)) p q))) (kept_all l p q ns))

module _ (p l x : List ℕ) (old new : Key) (wrong : Bool) (e : wrong ≡ (too_long old || too_long new)) (a : Result ℕ Refusal) (f : a ≡ answer (given_causes wrong false p l x) (length (entries l))) where
  checked : a ≡ answer (given_causes (too_long old || too_long new) false p l x) (length (entries l))
  checked = rw e at f

  -- its refusal is handed on
  pub check_refused : {A : Type 0} (o : Refusal → A) (v z : A) (db dx : List ℕ) (r : Refusal) → a ≡ Err r → z ≡ o r → z ≡ outcome o (translate_index_causes p l x old new db dx) v
  check_refused o v z db dx r h g = handed_on-first (given_causes (too_long old || too_long new) false p l x) (length (entries l)) a checked o v z _ r h g

  module _ (m : ℕ) (h : a ≡ Ok m) where
    given : first (given_causes (too_long old || too_long new) false p l x) ≡ none
    given = accepted (given_causes (too_long old || too_long new) false p l x) (length (entries l)) a checked m h

    by_entries : first (entries_causes (too_long old || too_long new) false p l) ≡ none
    by_entries = given_entries (too_long old || too_long new) false p l x given

    by_bucket : first (bucket_causes false l) ≡ none
    by_bucket = entries_bucket (too_long old || too_long new) false p l by_entries

    -- the bucket and the prefixes have none of the causes 1 and 2
    pub given_good : first (rename_causes l old new) ≡ none
    given_good = given_rename p l x old new given

    index_length : length x ≡ length (elements p) * place_size
    index_length = given_length (too_long old || too_long new) false p l x given

    index_is : places x ≡ Index (elements p) (entries l)
    index_is = given_places (too_long old || too_long new) false p l x given

    -- the places of the index can be passed in turn
    pub given_placed : Placed l x
    given_placed =
        let s = causes_sorted false _ p (entries_pivots (too_long old || too_long new) false p l by_entries) in
        record {
          most = bucket_most false l by_bucket;
          rise = λ i j a b. rw index_is (index_rises (elements p) (entries l) s i j a (omega (arith, index_length)));
          inside = λ i a. rw (index_is, ← bucket_count false l by_bucket) (index_most (elements p) (entries l) i (omega (arith, index_length)));
        }

    -- and the new places are the translated index
    new_is : new_places l old x ≡ TranslateIndex (elements p) (entries l) old new
    new_is =
        let r = entries_rise_lem (too_long old || too_long new) false p l by_entries in
        rw (index_is, translated_index (elements p) (entries l) old new r) (kept_all l old new (Index (elements p) (entries l)))

    -- ---- the destinations

    module _ (db dx : List ℕ) where
      -- without room for the index it is 8 where a kept key is too long, else 10
      pub index_refused : {A : Type 0} (o : Refusal → A) (v z : A) → length dx < length x → z ≡ o (cond (bucket_long l old new) TooLong NoRoom)
          → z ≡ outcome o (translate_index_causes p l x old new db dx) v
      unfolding outcome
      index_refused o v z k g = after o v z (given_causes (too_long old || too_long new) false p l x) _ given (go (bucket_long l old new) g)
        where
          full : no_room (length (elements p) * place_size) dx ≡ true
          full = rw (← index_length) (lt-ltb (length dx) (length x) k)

          go : (t : Bool) → z ≡ o (cond t TooLong NoRoom) → z ≡ outcome o ((t ⇒ TooLong) ∷ room_causes (needed_bytes l old new) (length (elements p) * place_size) db dx) v
          go true w = w
          go false w = rw (full, or-true) w

      module _ (k : length x ≤ length dx) where
        roomy : no_room (length (elements p) * place_size) dx ≡ false
        roomy = rw (← index_length) (le-ltb (length dx) (length x) k)

        -- with room for it the causes are those of the bucket's translation
        same : {A : Type 0} (o : Refusal → A) (v : A) → outcome o (translate_bucket_causes l old new db) v ≡ outcome o (translate_index_causes p l x old new db dx) v
        same o v =
            let ds = (bucket_long l old new ⇒ TooLong) ∷ (bucket_full l old new (length db) ⇒ NoRoom) ∷ [] in
            after o v (outcome o (translate_bucket_causes l old new db) v) (given_causes (too_long old || too_long new) false p l x) _ given
            (sym (after o v (outcome o ds v) (rename_causes l old new) ds given_good refl) ∙ rw (roomy, or-false))

        module _ (b : Result ℕ Refusal) (c : b ≡ translate_bucket_answer l old new db) where
          -- so its answer is handed on
          pub bucket_answers : b ≡ translate_index_answer p l x old new db dx
          bucket_answers = c ∙ same Err (Ok (length (new_bucket l old new)))

          pub bucket_refuses : (r : Refusal) (z : Result ℕ Refusal) → b ≡ Err r → z ≡ Err r → z ≡ translate_index_answer p l x old new db dx
          bucket_refuses r z u g = g ∙ sym u ∙ bucket_answers

          -- a refusal leaves the index as it was
          pub index_as_before : (r : Refusal) → b ≡ Err r → dx ≡ translate_index_leaves_index p l x old new db dx
          index_as_before r u = handed_on (translate_bucket_causes l old new db) _ b c (λ (_ : Refusal). dx) _ dx r u refl ∙ same (λ (_ : Refusal). dx) _

          -- else it is written
          pub index_written : (n : ℕ) (v : List ℕ) → b ≡ Ok n → v ≡ over (encode_index (new_places l old x)) dx → v ≡ translate_index_leaves_index p l x old new db dx
          index_written n v u g =
              call_passed (translate_bucket_causes l old new db) _ b c (λ (_ : Refusal). dx) _ v n u (rw new_is at g) ∙ same (λ (_ : Refusal). dx) _

        -- and what it leaves is left
        pub bucket_left : (v : List ℕ) → v ≡ translate_bucket_leaves l old new db → v ≡ translate_index_leaves_bucket p l x old new db dx
        bucket_left v c = c ∙ same (λ (_ : Refusal). db) (over (encode_bucket (new_bucket l old new)) db)
