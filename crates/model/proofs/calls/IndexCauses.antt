-- What a check of pivots, a bucket and an index says where it is passed.
use mathlib.Core.Path.{◌≡◌, refl, sym, ◌∙◌}
use mathlib.Core.Bool.{Bool, true, false, not, ◌&&◌, ◌||◌}
use mathlib.Core.List.{List, [], ◌∷◌}
use mathlib.Core.Option.{none, some}
use Prim.Native.Nat.{ℕ, ◌*◌}
use native.Mathlib.Omega.{arith}
use borrow.Author.Tests.{not-false, eqb-true, eq-eqb}
use lib.Dec.{eqb}
use lib.ListN.{length}
use lib.Seq.{take_all}
use Rattle.model.specs.declared.Refusal.TheVariants.{OutOfRange, EntriesUnsorted, WrongIndex}
use Rattle.model.specs.keys.Key.{IsPrefix}
use Rattle.model.specs.records.Record.{elements}
use Rattle.model.specs.tables.Tables.{WFPivots}
use Rattle.model.specs.buckets.Bucket.{entries, entries_rise}
use Rattle.model.specs.buckets.Index.{Index, place_size, places}
use Rattle.model.specs.calls.Refusals.{◌⇒◌, outcome, paired, first}
use Rattle.model.specs.calls.TableCalls.{pivot_causes}
use Rattle.model.specs.calls.BucketCalls.{bucket_causes}
use Rattle.model.specs.calls.IndexCalls.{entries_inside, entries_causes, index_bytes, given_causes}
use Rattle.model.proofs.keys.Key.{both, prefix_refl, prefix_is_take}
use Rattle.model.proofs.calls.Refusals.{after, none_here, none_later, none_before, none_after, none_paired, paired_none}
use Rattle.model.proofs.calls.TableCalls.{either_fails, causes_wf, causes_wrong}
use Rattle.model.proofs.buckets.IndexBytes.{length-encode_index, places-encode_index, index_count}

-- ---- pivots and a bucket without the causes 1, 2, 3, 14 and 5

module _ (wrong outside : Bool) (p l : List ℕ) (h : first (entries_causes wrong outside p l) ≡ none) where
  checks : first (paired (pivot_causes false wrong p) (bucket_causes false l)) ≡ none
  unfolding entries_causes
  checks = none_before (paired (pivot_causes false wrong p) (bucket_causes false l)) _ h

  others : first ((not (entries_rise (entries l)) ⇒ EntriesUnsorted) ∷ (outside || not (entries_inside (elements p) (entries l)) ⇒ OutOfRange) ∷ []) ≡ none
  unfolding entries_causes
  others = none_after (paired (pivot_causes false wrong p) (bucket_causes false l)) _ h

  -- the pivots have none of the causes 1 to 3, nor has another argument cause 2
  pub entries_pivots : first (pivot_causes false wrong p) ≡ none
  entries_pivots = (paired_none (pivot_causes false wrong p) (bucket_causes false l) checks).0

  pub entries_wrong : wrong ≡ false
  entries_wrong = causes_wrong false wrong p entries_pivots

  pub entries_wf : WFPivots (elements p) ≡ true
  entries_wf = causes_wf false wrong p entries_pivots

  -- the bucket has none of 1 and 2
  pub entries_bucket : first (bucket_causes false l) ≡ none
  entries_bucket = (paired_none (pivot_causes false wrong p) (bucket_causes false l) checks).1

  -- its entries rise
  pub entries_rise_lem : entries_rise (entries l) ≡ true
  entries_rise_lem = not-false (entries_rise (entries l)) (none_here _ EntriesUnsorted _ others)

  five : (outside ≡ false) × (not (entries_inside (elements p) (entries l)) ≡ false)
  five = either_fails outside (not (entries_inside (elements p) (entries l))) (none_here _ OutOfRange [] (none_later (not (entries_rise (entries l))) EntriesUnsorted _ others))

  -- the entries are inside the table, as another argument is
  pub entries_outside : outside ≡ false
  entries_outside = five.0

  pub entries_inside_lem : entries_inside (elements p) (entries l) ≡ true
  entries_inside_lem = not-false (entries_inside (elements p) (entries l)) five.1

-- pivots and a bucket of which all this holds have none of the causes
pub none_entries : (p l : List ℕ) → first (pivot_causes false false p) ≡ none → first (bucket_causes false l) ≡ none → entries_rise (entries l) ≡ true
    → entries_inside (elements p) (entries l) ≡ true → first (entries_causes false false p l) ≡ none
unfolding entries_causes
none_entries p l a b c d =
    sym
    (after some none none (paired (pivot_causes false false p) (bucket_causes false l)) _ (none_paired (pivot_causes false false p) (bucket_causes false l) a b)
    (unfold outcome in (rw (c, d))))

-- ---- a given index

-- bytes of the same length that are a prefix are the same
pub same_bytes : (x w : List ℕ) → (eqb (length x) (length w) && IsPrefix x w) ≡ true → x ≡ w
same_bytes x w h =
    let b = both (eqb (length x) (length w)) (IsPrefix x w) h in
    let n = eqb-true (length x) (length w) b.0 in
    sym (prefix_is_take x w b.1) ∙ take_all (length x) w (omega arith)

pub bytes_same : (x w : List ℕ) → x ≡ w → (eqb (length x) (length w) && IsPrefix x w) ≡ true
bytes_same x w h = rw (h, eq-eqb (length w) (length w) refl, prefix_refl w)

module _ (wrong outside : Bool) (p l x : List ℕ) (h : first (given_causes wrong outside p l x) ≡ none) where
  -- pivots and bucket have none of the causes before
  pub given_entries : first (entries_causes wrong outside p l) ≡ none
  unfolding given_causes
  given_entries = none_before (entries_causes wrong outside p l) _ h

  -- the index is that of pivots and bucket
  pub given_index : x ≡ index_bytes p l
  unfolding given_causes
  given_index =
      same_bytes x (index_bytes p l)
      (not-false (eqb (length x) (length (index_bytes p l)) && IsPrefix x (index_bytes p l)) (none_here _ WrongIndex [] (none_after (entries_causes wrong outside p l) _ h)))

  -- two bytes for each pivot
  pub given_length : length x ≡ length (elements p) * place_size
  given_length = rw (given_index, length-encode_index, index_count)

  pub given_places : places x ≡ Index (elements p) (entries l)
  given_places = rw given_index (places-encode_index (Index (elements p) (entries l)))
