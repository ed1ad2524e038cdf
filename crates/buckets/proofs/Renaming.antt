-- The causes of a renaming by what its steps answer: the measure, and the room.
use Rattle.std.specs.Prelude.{Result, Ok, Err}
use mathlib.Core.Path.{◌≡◌, refl, sym, ap, ◌∙◌}
use mathlib.Core.Bool.{Bool, true, false}
use mathlib.Core.List.{List, [], ◌∷◌}
use mathlib.Core.Option.{none, some}
use Prim.Native.Nat.{ℕ, ◌*◌}
use lib.Dec.{ltb}
use lib.ListN.{length}
use Rattle.model.specs.declared.Refusal.{Refusal}
use Rattle.model.specs.declared.Refusal.TheVariants.{TooLong, NoRoom}
use Rattle.model.specs.keys.Key.{Key}
use Rattle.model.specs.buckets.Bucket.{entry_size, encode_bucket}
use Rattle.model.specs.calls.Refusals.{◌⇒◌, outcome, first, answer, over}
use Rattle.model.specs.calls.BucketCalls.{new_bucket, bucket_long, bucket_full, rename_causes, translate_bucket_causes, translate_bucket_answer, translate_bucket_leaves}
use Rattle.model.proofs.calls.Refusals.{here, later, after, refused, refused_first, passed}
use Rattle.bucket_measures.specs.Kept.{Good, long_kept}
use Rattle.bucket_measures.proofs.Causes.{not_long, count_is, full_is}

module _ (l : List ℕ) (p q : Key) (b : Result ℕ Refusal) (h : Good l p q) (f : b ≡ answer (long_kept (new_bucket l p q)) (length (new_bucket l p q))) where
  -- the measure's refusal is handed on
  pub measure_handed : {A : Type 0} (o : Refusal → A) (v x : A) (d : List ℕ) (r : Refusal) → b ≡ Err r → x ≡ o r → x ≡ outcome o (translate_bucket_causes l p q d) v
  measure_handed o v x d r k g =
      after o v x (rename_causes l p q) _ h
      (refused_first o v x (long_kept (new_bucket l p q)) ((bucket_full l p q (length d) ⇒ NoRoom) ∷ []) r (refused (long_kept (new_bucket l p q)) _ b f r k) g)

  module _ (kept : ℕ) (k : b ≡ Ok kept) (m : ℕ) (t : Bool) (c : t ≡ ltb m (kept * entry_size)) (d : List ℕ) (e : m ≡ length d) where
    long_is : bucket_long l p q ≡ false
    long_is = not_long l p q b f kept k

    room_is : bucket_full l p q (length d) ≡ t
    room_is = rw e at (full_is l p q b f kept k m t c)

    -- too little room makes the outcome
    pub room_refused : {A : Type 0} (o : Refusal → A) (v x : A) → t ≡ true → x ≡ o NoRoom → x ≡ outcome o (translate_bucket_causes l p q d) v
    room_refused o v x j g =
        after o v x (rename_causes l p q) _ h
        (later o v x (bucket_long l p q) TooLong _ long_is
        (here o v x (bucket_full l p q (length d)) NoRoom [] (room_is ∙ j) g))

    module _ (j : t ≡ false) where
      -- with enough of it no cause applies
      pub no_cause : first (translate_bucket_causes l p q d) ≡ none
      no_cause =
          sym (after some none none (rename_causes l p q) _ h
          (later some none none (bucket_long l p q) TooLong _ long_is
          (later some none none (bucket_full l p q (length d)) NoRoom [] (room_is ∙ j) (unfold outcome in refl))))

      -- the count is answered
      pub count_answered : Ok kept ≡ translate_bucket_answer l p q d
      count_answered = passed Err _ (Ok kept) (translate_bucket_causes l p q d) no_cause (ap Ok (count_is l p q b f kept k))

      -- and the entries kept are left
      pub entries_left : (v : List ℕ) → v ≡ over (encode_bucket (new_bucket l p q)) d → v ≡ translate_bucket_leaves l p q d
      entries_left v g = passed (λ (_ : Refusal). d) _ v (translate_bucket_causes l p q d) no_cause g
