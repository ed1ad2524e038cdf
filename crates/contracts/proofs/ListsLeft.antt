-- Lists of buckets as the calls leave them: translated, and cut.
use mathlib.Core.Path.{◌≡◌, refl, sym, ◌∙◌}
use mathlib.Core.Bool.{Bool, true, false, not, ◌||◌}
use mathlib.Core.List.{List, [], ◌∷◌}
use mathlib.Core.Option.{none}
use Prim.Native.Nat.{ℕ, ◌≤◌, ◌<◌}
use native.Mathlib.Omega.{arith}
use borrow.Author.Tests.{not-false, ltb-false}
use lib.ListN.{length}
use Rattle.model.specs.keys.Key.{Key, max_len, too_long}
use Rattle.model.specs.records.Record.{elements}
use Rattle.model.specs.tables.Tables.{IsStrictlySorted, WFPivots}
use Rattle.model.specs.cuts.Sides.{inside}
use Rattle.model.specs.buckets.Bucket.{entries, entries_rise, TranslateBuckets}
use Rattle.model.specs.buckets.Index.{slot_buckets, TranslateIndex, places}
use Rattle.model.specs.calls.Refusals.{first}
use Rattle.model.specs.calls.BucketCalls.{new_bucket}
use Rattle.model.specs.calls.CutCalls.{cut_pivots}
use Rattle.model.specs.calls.IndexCalls.{entries_inside, entries_causes, given_causes, cut_entries, cut_index_causes, cut_index_answer}
use Rattle.model.specs.calls.IndexCalls.{translate_index_causes, translate_index_answer}
use Rattle.model.proofs.records.Records.{elements-encode_all}
use Rattle.model.proofs.tables.Routing.{wf_all_short}
use Rattle.model.proofs.cuts.Sides.{split_wf}
use Rattle.model.proofs.buckets.IndexBytes.{places-encode_index}
use Rattle.model.proofs.buckets.SlotBuckets.{slots_count, translated_together, translated_count, translated_first, translated_last, translated_places}
use Rattle.model.proofs.buckets.CutSlots.{slots_alone}
use Rattle.model.proofs.buckets.IndexTranslation.{translated_rises}
use Rattle.model.proofs.calls.Refusals.{accepted, none_before}
use Rattle.model.proofs.calls.BucketCalls.{renamed_reads, renamed_passes}
use Rattle.model.proofs.calls.IndexCauses.{entries_wf, entries_wrong, entries_outside, entries_rise_lem, entries_inside_lem, given_entries}
use Rattle.model.proofs.calls.IndexCalls.{check_none}
use Rattle.model.proofs.calls.IndexCuts.{cut_reads, cut_checks}
use Rattle.model.proofs.calls.TranslatedIndex.{translate_bucket_answers, translate_bucket_leaves_lem, translate_rises, translate_places}
use Rattle.contracts.specs.BucketLists.{ILseq, InvLseq, CutsIndex, TranslatesIndex}
use Rattle.contracts.proofs.ListsLent.{sorted, some_pivot}

-- ---- what the calls leave

-- an accepted translation
module _ (p l x : List ℕ) (old new : Key) (l' x' : List ℕ) (t : TranslatesIndex p l x old new l' x') where
  uncaused : first (entries_causes (too_long old || too_long new) false p l) ≡ none
  uncaused =
      given_entries (too_long old || too_long new) false p l x
      (none_before (given_causes (too_long old || too_long new) false p l x) _
      (accepted (translate_index_causes p l x old new t.entries_to t.places_to) (length (new_bucket l old new)) (translate_index_answer p l x old new t.entries_to t.places_to) refl t.total t.answered))

  table_sorted : IsStrictlySorted (elements p) ≡ true
  table_sorted = sorted (too_long old || too_long new) false p l uncaused

  table_some : 0 < length (elements p)
  table_some = some_pivot (too_long old || too_long new) false p l uncaused

  bucket_inside : entries_inside (elements p) (entries l) ≡ true
  bucket_inside = entries_inside_lem (too_long old || too_long new) false p l uncaused

  bucket_rises : entries_rise (entries l) ≡ true
  bucket_rises = entries_rise_lem (too_long old || too_long new) false p l uncaused

  reads : entries l' ≡ new_bucket l old new
  reads =
      rw (t.bucket, translate_bucket_leaves_lem p l x old new t.entries_to t.places_to t.total t.answered)
      (renamed_reads l old new t.entries_to t.total (translate_bucket_answers p l x old new t.entries_to t.places_to t.total t.answered))

  -- leaves the slots' buckets, translated
  pub list_translated : ILseq l' x' (TranslateBuckets (slot_buckets (elements p) (entries l)) old new)
  list_translated =
      record {
        bucket = reads ∙ sym (translated_together old new (elements p) (entries l) table_sorted table_some bucket_inside);
        index = t.index ∙ translate_places p l x old new t.entries_to t.places_to t.total t.answered;
      }

  says : places x' ≡ TranslateIndex (elements p) (entries l) old new
  says = rw (list_translated.index, translated_places old new (elements p) (entries l) table_sorted table_some bucket_inside bucket_rises) (places-encode_index (TranslateIndex (elements p) (entries l) old new))

  -- by a table of two pivots there is one
  pub list_alone : length (elements p) ≡ 2 → slot_buckets (elements p) (entries l) ≡ entries l ∷ []
  list_alone n = slots_alone (elements p) (entries l) table_sorted n bucket_inside

  -- and they are a bucket and places again
  pub list_passes : InvLseq l' x' (length (slot_buckets (elements p) (entries l)))
  list_passes =
      let n = slots_count (elements p) (entries l) in
      let b = translate_bucket_answers p l x old new t.entries_to t.places_to t.total t.answered in
      record {
        bucket = rw (t.bucket, translate_bucket_leaves_lem p l x old new t.entries_to t.places_to t.total t.answered) (renamed_passes l old new t.entries_to t.total b);
        rises = rw t.bucket (translate_rises p l x old new t.entries_to t.places_to t.total t.answered);
        count = rw (says, n) (translated_count old new (elements p) (entries l) ∙ omega (arith, table_some));
        begins = rw says (translated_first old new (elements p) (entries l) table_sorted table_some bucket_inside);
        ends = rw (says, n, reads) (translated_last old new (elements p) (entries l) table_sorted table_some bucket_inside);
        climbs = rw (says, n) (λ a c h k. translated_rises (elements p) (entries l) old new bucket_rises table_sorted a c h (omega (arith, table_some)));
      }

-- an accepted cut
pub record Cut (left : Bool) (p l : List ℕ) (k : Key) (p' l' : List ℕ) : Type 0 where
  pub wf : WFPivots (elements p) ≡ true
  pub short : length k ≤ max_len
  pub cuts : inside left (elements p) k ≡ true
  pub rises : entries_rise (entries l) ≡ true
  pub pivots : elements p' ≡ cut_pivots left p k
  pub bucket : entries l' ≡ cut_entries left l k

pub cut_made : (left : Bool) (p l x : List ℕ) (k : Key) (p' l' x' : List ℕ) → CutsIndex left p l x k p' l' x' → Cut left p l k p' l'
cut_made left p l x k p' l' x' c =
    let h = given_entries (too_long k) (not (inside left (elements p) k)) p l x
    (none_before (given_causes (too_long k) (not (inside left (elements p) k)) p l x) _
    (accepted (cut_index_causes left p l x k c.entries_to c.places_to) (length (cut_entries left l k)) (cut_index_answer left p l x k c.entries_to c.places_to) refl c.total c.answered)) in
    let w = entries_wf (too_long k) (not (inside left (elements p) k)) p l h in
    let s = ltb-false max_len (length k) (entries_wrong (too_long k) (not (inside left (elements p) k)) p l h) in
    let v = not-false (inside left (elements p) k) (entries_outside (too_long k) (not (inside left (elements p) k)) p l h) in
    record {
      wf = w;
      short = s;
      cuts = v;
      rises = entries_rise_lem (too_long k) (not (inside left (elements p) k)) p l h;
      pivots = rw c.pivots (elements-encode_all (cut_pivots left p k) (wf_all_short (cut_pivots left p k) (split_wf (elements p) k w left v s)));
      bucket = rw c.bucket (cut_reads left p l x k c.entries_to c.places_to c.total c.answered);
    }

-- lent what an accepted cut leaves, a call has no cause before 8
pub cut_given : (left : Bool) (p l x : List ℕ) (k : Key) (p' l' x' : List ℕ) → CutsIndex left p l x k p' l' x' → (wrong : Bool) → wrong ≡ false → first (given_causes wrong false p' l' x') ≡ none
cut_given left p l x k p' l' x' c wrong h =
    rw h (check_none p' l' x' c.total (rw (c.pivots, c.bucket, c.index) (cut_checks left p l x k c.entries_to c.places_to c.total c.answered)))
