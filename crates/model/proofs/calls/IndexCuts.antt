-- A bucket cut with its index: what the call writes is the entries on its side, with the index that build writes for them; both sides are the whole.
use Rattle.std.specs.Prelude.{Ok, Err}
use mathlib.Core.Path.{◌≡◌, refl, sym, ap, ◌∙◌}
use mathlib.Core.Bool.{Bool, true, false, cond, not, ◌||◌, not-not}
use mathlib.Core.List.{List, ◌++◌}
use mathlib.Core.Option.{none}
use Prim.Native.Nat.{ℕ, ◌+◌, ◌*◌, ◌≤◌}
use native.Mathlib.Omega.{arith}
use borrow.Author.Tests.{ltb-false, not-false}
use lib.ListN.{length, take, length-append}
use Rattle.model.specs.declared.Refusal.TheVariants.{NoRoom}
use Rattle.model.specs.keys.Key.{Key, Bytes, max_len, too_long}
use Rattle.model.specs.keys.Order.{key, lte}
use Rattle.model.specs.records.Record.{elements, encode_all}
use Rattle.model.specs.tables.Tables.{PivotTable, all, WFPivots, BoundedKey}
use Rattle.model.specs.cuts.Sides.{inside, Split}
use Rattle.model.specs.buckets.Bucket.{Entry, Bucket, entry_size, entries, encode_bucket, sized_entry, entries_rise}
use Rattle.model.specs.buckets.Index.{is_below, entries_below, entries_from, entries_beside, place_size, encode_index}
use Rattle.model.specs.calls.Refusals.{outcome, first}
use Rattle.model.specs.calls.KeyCalls.{no_room}
use Rattle.model.specs.calls.BucketCalls.{bucket_causes}
use Rattle.model.specs.calls.CutCalls.{cut_pivots}
use Rattle.model.specs.calls.IndexCalls.{entries_inside, entries_causes, index_bytes, given_causes, build_index_leaves, check_index_answer}
use Rattle.model.specs.calls.IndexCalls.{cut_entries, cut_index, cut_index_causes, cut_index_answer, cut_index_leaves_bucket, cut_index_leaves_index}
use Rattle.model.proofs.records.Records.{elements-encode_all}
use Rattle.model.proofs.tables.Routing.{wf_all_short}
use Rattle.model.proofs.cuts.Cuts.{split_left_bounded, split_right_bounded}
use Rattle.model.proofs.cuts.Sides.{split_wf, split_most}
use Rattle.model.proofs.buckets.Entries.{encode_append, length-encode_bucket, entries-encode_bucket}
use Rattle.model.proofs.buckets.Below.{only_most, only_passes, below_from, below_take, from_drop}
use Rattle.model.proofs.buckets.IndexBytes.{length-encode_index, index_count}
use Rattle.model.proofs.buckets.Index.{rise_take, rise_drop}
use Rattle.model.proofs.calls.Refusals.{after, accepted, value_is, none_before}
use Rattle.model.proofs.calls.RenamingCalls.{wrote}
use Rattle.model.proofs.calls.TableCalls.{causes_most}
use Rattle.model.proofs.calls.BucketCalls.{bucket_encode, bucket_sized, bucket_count, bucket_most, written_bucket}
use Rattle.model.proofs.calls.WrittenTables.{wf_causes}
use Rattle.model.proofs.calls.IndexCauses.{entries_pivots, entries_bucket, entries_wf, entries_wrong, entries_outside, entries_rise_lem, entries_inside_lem, none_entries, given_entries}
use Rattle.model.proofs.calls.IndexCalls.{check_accepts, checked_is_built, Indexes, check_indexes}

-- ---- the entries on a side

module _ (k : Key) (b : Bucket) where
  -- they pass each test that all entries pass
  beside_all : (left : Bool) (test : Entry → Bool) → all test b ≡ true → all test (entries_beside left k b) ≡ true
  unfolding entries_below entries_from
  beside_all true test h = only_passes test (is_below (key k)) test (λ e t u. t) b h
  beside_all false test h = only_passes test (λ (e : Entry). not (is_below (key k) e)) test (λ e t u. t) b h

  -- there are no more than entries
  pub beside_most : (left : Bool) → length (entries_beside left k b) ≤ length b
  unfolding entries_below entries_from
  beside_most true = only_most (is_below (key k)) b
  beside_most false = only_most (λ (e : Entry). not (is_below (key k) e)) b

  -- they rise
  pub beside_rises : (left : Bool) → entries_rise b ≡ true → entries_rise (entries_beside left k b) ≡ true
  beside_rises true r = rw (below_take (key k) b r) (rise_take (length (entries_below (key k) b)) b r)
  beside_rises false r = rw (from_drop (key k) b r) (rise_drop (length (entries_below (key k) b)) b r)

  -- and are inside the cut table
  pub beside_inside : (left : Bool) (pt : PivotTable) → WFPivots pt ≡ true → inside left pt k ≡ true → entries_inside pt b ≡ true → entries_inside (Split left pt k) (entries_beside left k b) ≡ true
  unfolding entries_inside entries_below entries_from
  beside_inside true pt w v h =
      only_passes (λ (e : Entry). BoundedKey pt e.key) (is_below (key k)) (λ (e : Entry). BoundedKey (Split true pt k) e.key)
      (λ e t u. rw (split_left_bounded pt k w v e.key, t) u) b h
  beside_inside false pt w v h =
      only_passes (λ (e : Entry). BoundedKey pt e.key) (λ (e : Entry). not (is_below (key k) e)) (λ (e : Entry). BoundedKey (Split false pt k) e.key)
      (λ e t u. rw (split_right_bounded pt k w v e.key, t) (sym (not-not (lte (key k) (key e.key))) ∙ u)) b h

-- ---- room

-- the index of the cut table has two bytes for each of its pivots
cut_length : (left : Bool) (p l : List ℕ) (k : Key) → length (encode_index (cut_index left p l k)) ≡ length (cut_pivots left p k) * place_size
cut_length left p l k = rw (length-encode_index, index_count)

module _ (left : Bool) (p l x : List ℕ) (k : Key) (h : first (given_causes (too_long k) (not (inside left (elements p) k)) p l x) ≡ none) where
  side_sized : all sized_entry (cut_entries left l k) ≡ true
  side_sized = beside_all k (entries l) left sized_entry (bucket_sized false l (entries_bucket (too_long k) _ p l (given_entries (too_long k) _ p l x h)))

  -- where all before is accepted, the answer is 10 if a destination is shorter than what is written to it, and else the number of entries
  pub cut_by_room : (db dx : List ℕ)
      → cut_index_answer left p l x k db dx
      ≡ cond (no_room (length (encode_bucket (cut_entries left l k))) db || no_room (length (encode_index (cut_index left p l k))) dx) (Err NoRoom) (Ok (length (cut_entries left l k)))
  unfolding outcome
  cut_by_room db dx =
      sym (after Err _ _ (given_causes (too_long k) (not (inside left (elements p) k)) p l x) _ h
      (rw (length-encode_bucket (cut_entries left l k) side_sized, cut_length left p l k)))

-- ---- an accepted cut

module _ (left : Bool) (p l x : List ℕ) (k : Key) (db dx : List ℕ) (m : ℕ) (h : cut_index_answer left p l x k db dx ≡ Ok m) where
  no_cause : first (cut_index_causes left p l x k db dx) ≡ none
  no_cause = accepted (cut_index_causes left p l x k db dx) (length (cut_entries left l k)) (cut_index_answer left p l x k db dx) refl m h

  given : first (given_causes (too_long k) (not (inside left (elements p) k)) p l x) ≡ none
  given = none_before (given_causes (too_long k) (not (inside left (elements p) k)) p l x) _ no_cause

  checked : first (entries_causes (too_long k) (not (inside left (elements p) k)) p l) ≡ none
  checked = given_entries (too_long k) _ p l x given

  wf : WFPivots (elements p) ≡ true
  wf = entries_wf (too_long k) _ p l checked

  short : length k ≤ max_len
  short = ltb-false max_len (length k) (entries_wrong (too_long k) _ p l checked)

  cuts : inside left (elements p) k ≡ true
  cuts = not-false _ (entries_outside (too_long k) _ p l checked)

  bucket : first (bucket_causes false l) ≡ none
  bucket = entries_bucket (too_long k) _ p l checked

  -- it answers the number of entries on its side
  pub cut_answers : m ≡ length (cut_entries left l k)
  cut_answers = value_is (cut_index_causes left p l x k db dx) (length (cut_entries left l k)) (cut_index_answer left p l x k db dx) refl m h

  sized : all sized_entry (cut_entries left l k) ≡ true
  sized = side_sized left p l x k given

  cut_wf : WFPivots (cut_pivots left p k) ≡ true
  cut_wf = split_wf (elements p) k wf left cuts short

  -- the bytes of these are written
  pub cut_bucket : take (m * entry_size) (cut_index_leaves_bucket left p l x k db dx) ≡ encode_bucket (cut_entries left l k)
  cut_bucket =
      wrote (cut_index_causes left p l x k db dx) (encode_bucket (cut_entries left l k)) db (m * entry_size) no_cause
      (rw cut_answers (length-encode_bucket (cut_entries left l k) sized))

  -- and the index of them and the cut table
  pub cut_index_lem : take (length (cut_pivots left p k) * place_size) (cut_index_leaves_index left p l x k db dx) ≡ encode_index (cut_index left p l k)
  cut_index_lem =
      wrote (cut_index_causes left p l x k db dx) (encode_index (cut_index left p l k)) dx (length (cut_pivots left p k) * place_size) no_cause
      (cut_length left p l k)

  -- what is written reads as the entries on that side
  pub cut_reads : entries (take (m * entry_size) (cut_index_leaves_bucket left p l x k db dx)) ≡ cut_entries left l k
  cut_reads = rw cut_bucket (entries-encode_bucket (cut_entries left l k) sized)

  cut_pivots_lem : elements (encode_all (cut_pivots left p k)) ≡ cut_pivots left p k
  cut_pivots_lem = elements-encode_all (cut_pivots left p k) (wf_all_short (cut_pivots left p k) cut_wf)

  none_cut : first (entries_causes false false (encode_all (cut_pivots left p k)) (encode_bucket (cut_entries left l k))) ≡ none
  none_cut =
      let n = split_most (elements p) k wf left cuts in
      let c = causes_most false (too_long k) p (entries_pivots (too_long k) _ p l checked) in
      let f = beside_most k (entries l) left in
      let g = entries-encode_bucket (cut_entries left l k) sized in
      none_entries (encode_all (cut_pivots left p k)) (encode_bucket (cut_entries left l k)) (wf_causes (cut_pivots left p k) cut_wf (omega arith))
      (written_bucket (cut_entries left l k) sized (omega (arith, bucket_count false l bucket, bucket_most false l bucket)))
      (rw g (beside_rises k (entries l) left (entries_rise_lem (too_long k) _ p l checked)))
      (rw (g, cut_pivots_lem) (beside_inside k (entries l) left (elements p) wf cuts (entries_inside_lem (too_long k) _ p l checked)))

  -- the index written is the one that belongs to the cut table and these entries: the check accepts it
  pub cut_checks : check_index_answer (encode_all (cut_pivots left p k)) (take (m * entry_size) (cut_index_leaves_bucket left p l x k db dx))
      (take (length (cut_pivots left p k) * place_size) (cut_index_leaves_index left p l x k db dx)) ≡ Ok m
  cut_checks =
      let g = entries-encode_bucket (cut_entries left l k) sized in
      let e : index_bytes (encode_all (cut_pivots left p k)) (encode_bucket (cut_entries left l k)) ≡ encode_index (cut_index left p l k) = rw (g, cut_pivots_lem) in
      rw (cut_bucket, cut_index_lem)
      (check_accepts (encode_all (cut_pivots left p k)) (encode_bucket (cut_entries left l k)) (encode_index (cut_index left p l k)) none_cut (sym e)
      ∙ ap (λ (b : Bucket). Ok (length b)) g ∙ ap Ok (sym cut_answers))

  -- so it is what build leaves for them
  pub cut_is_built : (d : List ℕ) → length (take (length (cut_pivots left p k) * place_size) (cut_index_leaves_index left p l x k db dx)) ≤ length d
      → take (length (take (length (cut_pivots left p k) * place_size) (cut_index_leaves_index left p l x k db dx)))
      (build_index_leaves (encode_all (cut_pivots left p k)) (take (m * entry_size) (cut_index_leaves_bucket left p l x k db dx)) d)
      ≡ take (length (cut_pivots left p k) * place_size) (cut_index_leaves_index left p l x k db dx)
  cut_is_built d r = checked_is_built _ _ _ m cut_checks d r

  -- the index written begins with 0 and rises, weakly, and its last place is what the cut answers
  pub cut_indexes : Indexes (encode_all (cut_pivots left p k)) (take (m * entry_size) (cut_index_leaves_bucket left p l x k db dx)) m
      (take (length (cut_pivots left p k) * place_size) (cut_index_leaves_index left p l x k db dx))
  cut_indexes = check_indexes _ _ _ m cut_checks

-- ---- both sides

module _ (p l x : List ℕ) (k : Key) (db dx eb ex : List ℕ) (m n : ℕ) (h : cut_index_answer true p l x k db dx ≡ Ok m) (g : cut_index_answer false p l x k eb ex ≡ Ok n) where
  sides : cut_entries true l k ++ cut_entries false l k ≡ entries l
  sides = below_from (key k) (entries l) (entries_rise_lem (too_long k) _ p l (checked true p l x k db dx m h))

  -- the cuts at one key answer together the number of entries
  pub sides_count : m + n ≡ length (entries l)
  sides_count = rw (cut_answers true p l x k db dx m h, cut_answers false p l x k eb ex n g, ← length-append (cut_entries true l k) (cut_entries false l k), sides)

  -- and what they write, one after the other, is the bucket, byte for byte
  pub sides_joined : Bytes l → l ≡ take (m * entry_size) (cut_index_leaves_bucket true p l x k db dx) ++ take (n * entry_size) (cut_index_leaves_bucket false p l x k eb ex)
  sides_joined b =
      rw (cut_bucket true p l x k db dx m h, cut_bucket false p l x k eb ex n g, ← encode_append (cut_entries true l k) (cut_entries false l k), sides)
      (sym (bucket_encode false l (bucket true p l x k db dx m h) b))
