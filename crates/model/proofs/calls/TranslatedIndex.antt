-- A bucket translated with its index: the bucket is the one that translate_bucket writes, the places are where the slots' translated parts begin.
use Rattle.std.specs.Prelude.{Ok, Err}
use mathlib.Core.Path.{◌≡◌, refl, sym, ◌∙◌}
use mathlib.Core.Bool.{true, false, cond, ◌||◌}
use mathlib.Core.List.{List, [], ◌∷◌}
use mathlib.Core.Option.{none, some}
use Prim.Native.Nat.{ℕ, ◌*◌, ◌<◌}
use native.Mathlib.Omega.{arith}
use lib.ListN.{length, take}
use Rattle.model.specs.declared.Refusal.{Refusal}
use Rattle.model.specs.declared.Refusal.TheVariants.{TooLong, NoRoom}
use Rattle.model.specs.keys.Key.{Key, too_long}
use Rattle.model.specs.records.Record.{elements}
use Rattle.model.specs.tables.Tables.{NumBuckets, IsStrictlySorted}
use Rattle.model.specs.buckets.Bucket.{entry_size, entries, encode_bucket, TranslateBuckets, entries_rise}
use Rattle.model.specs.buckets.Index.{place_at, slot_buckets, places_from, TranslateIndex, place_size, encode_index, places}
use Rattle.model.specs.calls.Refusals.{◌⇒◌, outcome, first}
use Rattle.model.specs.calls.KeyCalls.{no_room}
use Rattle.model.specs.calls.BucketCalls.{new_bucket, needed_bytes, bucket_long, rename_causes, translate_bucket_causes, translate_bucket_answer, translate_bucket_leaves}
use Rattle.model.specs.calls.CutCalls.{room_causes}
use Rattle.model.specs.calls.IndexCalls.{entries_inside, entries_causes, given_causes}
use Rattle.model.specs.calls.IndexCalls.{translate_index_causes, translate_index_answer, translate_index_leaves_bucket, translate_index_leaves_index}
use Rattle.model.proofs.tables.Routing.{wf_sorted, wf_count}
use Rattle.model.proofs.buckets.Renamed.{renamed_rises}
use Rattle.model.proofs.buckets.IndexBytes.{length-encode_index, places-encode_index}
use Rattle.model.proofs.buckets.SlotBuckets.{translated_count, translated_last, translated_places}
use Rattle.model.proofs.calls.Refusals.{after, passed, accepted, value_is, none_here, none_later, none_before, none_after}
use Rattle.model.proofs.calls.TableCalls.{either_fails}
use Rattle.model.proofs.calls.RenamingCalls.{wrote}
use Rattle.model.proofs.calls.BucketCalls.{renamed_reads}
use Rattle.model.proofs.calls.BucketRoom.{needed_written}
use Rattle.model.proofs.calls.IndexCauses.{entries_wf, entries_wrong, entries_bucket, entries_rise_lem, entries_inside_lem, given_entries}

-- there are two bytes for each pivot
places_length : (p l : List ℕ) (old new : Key) → length (encode_index (TranslateIndex (elements p) (entries l) old new)) ≡ length (elements p) * place_size
places_length p l old new = rw (length-encode_index, translated_count old new (elements p) (entries l))

module _ (p l x : List ℕ) (old new : Key) (h : first (given_causes (too_long old || too_long new) false p l x) ≡ none) where
  -- the bucket alone has none of the causes 1 and 2
  pub given_rename : first (rename_causes l old new) ≡ none
  given_rename =
      let c = given_entries (too_long old || too_long new) false p l x h in
      rw (entries_wrong (too_long old || too_long new) false p l c) (entries_bucket (too_long old || too_long new) false p l c)

  -- where all before is accepted and no key gets too long, the answer is 10 if a destination is shorter than what is written to it, and else the count
  pub translate_by_room : (db dx : List ℕ) → bucket_long l old new ≡ false
      → translate_index_answer p l x old new db dx
      ≡ cond (no_room (length (encode_bucket (new_bucket l old new))) db || no_room (length (encode_index (TranslateIndex (elements p) (entries l) old new))) dx) (Err NoRoom) (Ok (length (new_bucket l old new)))
  unfolding outcome
  translate_by_room db dx s =
      sym (after Err _ _ (given_causes (too_long old || too_long new) false p l x) _ h
      (rw (s, ← needed_written l old new given_rename s, places_length p l old new)))

module _ (p l x : List ℕ) (old new : Key) (db dx : List ℕ) (m : ℕ) (h : translate_index_answer p l x old new db dx ≡ Ok m) where
  no_cause : first (translate_index_causes p l x old new db dx) ≡ none
  no_cause = accepted (translate_index_causes p l x old new db dx) (length (new_bucket l old new)) (translate_index_answer p l x old new db dx) refl m h

  given : first (given_causes (too_long old || too_long new) false p l x) ≡ none
  given = none_before (given_causes (too_long old || too_long new) false p l x) _ no_cause

  checked : first (entries_causes (too_long old || too_long new) false p l) ≡ none
  checked = given_entries (too_long old || too_long new) false p l x given

  rest : first ((bucket_long l old new ⇒ TooLong) ∷ room_causes (needed_bytes l old new) (length (elements p) * place_size) db dx) ≡ none
  rest = none_after (given_causes (too_long old || too_long new) false p l x) _ no_cause

  short : bucket_long l old new ≡ false
  short = none_here (bucket_long l old new) TooLong _ rest

  fits : no_room (needed_bytes l old new) db ≡ false
  fits = (either_fails (no_room (needed_bytes l old new) db) _ (none_here _ NoRoom [] (none_later (bucket_long l old new) TooLong _ rest))).0

  bucket : first (translate_bucket_causes l old new db) ≡ none
  unfolding outcome
  bucket =
      sym (after some none none (rename_causes l old new) _ (given_rename p l x old new given) (rw (short, fits)))

  sorted : IsStrictlySorted (elements p) ≡ true
  sorted = wf_sorted (elements p) (entries_wf (too_long old || too_long new) false p l checked)

  some_pivot : 0 < length (elements p)
  some_pivot = omega (arith, wf_count (elements p) (entries_wf (too_long old || too_long new) false p l checked))

  inside : entries_inside (elements p) (entries l) ≡ true
  inside = entries_inside_lem (too_long old || too_long new) false p l checked

  rising : entries_rise (entries l) ≡ true
  rising = entries_rise_lem (too_long old || too_long new) false p l checked

  -- it answers the count of entries kept
  pub translate_answers : m ≡ length (new_bucket l old new)
  translate_answers = value_is (translate_index_causes p l x old new db dx) (length (new_bucket l old new)) (translate_index_answer p l x old new db dx) refl m h

  -- translate_bucket answers the same
  pub translate_bucket_answers : translate_bucket_answer l old new db ≡ Ok m
  translate_bucket_answers = rw translate_answers (sym (passed Err _ _ (translate_bucket_causes l old new db) bucket refl))

  -- translate_bucket leaves the same bytes
  pub translate_bucket_leaves_lem : translate_index_leaves_bucket p l x old new db dx ≡ translate_bucket_leaves l old new db
  translate_bucket_leaves_lem =
      sym (passed (λ (_ : Refusal). db) _ _ (translate_index_causes p l x old new db dx) no_cause refl)
      ∙ passed (λ (_ : Refusal). db) _ _ (translate_bucket_causes l old new db) bucket refl

  -- the entries written rise
  pub translate_rises : entries_rise (entries (take (m * entry_size) (translate_index_leaves_bucket p l x old new db dx))) ≡ true
  translate_rises = rw (translate_bucket_leaves_lem, renamed_reads l old new db m translate_bucket_answers) (renamed_rises (entries l) old new rising)

  translate_writes : take (length (elements p) * place_size) (translate_index_leaves_index p l x old new db dx) ≡ encode_index (TranslateIndex (elements p) (entries l) old new)
  translate_writes =
      wrote (translate_index_causes p l x old new db dx) (encode_index (TranslateIndex (elements p) (entries l) old new)) dx (length (elements p) * place_size) no_cause
      (places_length p l old new)

  -- the places written are those where the slots' parts, translated in turn, begin, and the total
  pub translate_places : take (length (elements p) * place_size) (translate_index_leaves_index p l x old new db dx) ≡ encode_index (places_from 0 (TranslateBuckets (slot_buckets (elements p) (entries l)) old new))
  translate_places = rw (translated_places old new (elements p) (entries l) sorted some_pivot inside rising) translate_writes

  -- which is what the call answers
  pub translate_last : place_at (places (take (length (elements p) * place_size) (translate_index_leaves_index p l x old new db dx))) (NumBuckets (elements p)) ≡ m
  translate_last =
      rw (translate_writes, places-encode_index (TranslateIndex (elements p) (entries l) old new))
      (translated_last old new (elements p) (entries l) sorted some_pivot inside ∙ sym translate_answers)
