-- The entries of a slot, by the places of a checked index: how many, and which bytes.
use Rattle.std.specs.Prelude.{Result, Ok, Err}
use Rattle.model.specs.declared.Refusal.{Refusal}
use mathlib.Core.Path.{◌≡◌, sym, ap, ◌∙◌}
use mathlib.Core.Bool.{false}
use mathlib.Core.List.{List, map}
use mathlib.Core.Option.{none}
use Prim.Native.Nat.{ℕ, ◌+◌, ◌*◌, ◌-◌, ◌/◌, ◌≤◌, ◌<◌}
use native.Mathlib.Nat.{add-sub_cancel_left}
use native.Mathlib.Omega.{arith}
use borrow.Author.Tests.{lt-ltb, le-ltb}
use lib.ListN.{length, take, drop, get_or, length-drop}
use mir.Syntax.{w8, w64}
use mir.Val.{Fits}
use Rattle.model.specs.declared.Refusal.TheVariants.{NoSuchSlot}
use Rattle.model.specs.records.Record.{joined, elements}
use Rattle.model.specs.tables.Tables.{NumBuckets}
use Rattle.model.specs.buckets.Bucket.{entry_size, entries, encode_entry, encode_bucket, sized_entry}
use Rattle.model.specs.buckets.Index.{Index, place_at, slot_entries, places}
use Rattle.model.specs.calls.Refusals.{outcome, first}
use Rattle.model.specs.calls.BucketCalls.{bucket_causes}
use Rattle.model.specs.calls.IndexCalls.{given_causes, check_index_answer, slot_entries_causes, slot_entries_answer, slot_entries_part}
use Rattle.model.proofs.Lists.{all_parts}
use Rattle.model.proofs.keys.Key.{bytes_of}
use Rattle.model.proofs.tables.Routing.{wf_count, wf_sorted}
use Rattle.model.proofs.records.Records.{joined_take, joined_drop}
use Rattle.model.proofs.calls.Refusals.{accepted, value_is, after, none_before}
use Rattle.model.proofs.calls.TableCalls.{length_elements}
use Rattle.model.proofs.calls.IndexCalls.{part_is, part_inside}
use Rattle.model.proofs.calls.BucketCalls.{bucket_whole, bucket_count, bucket_most, bucket_sized, bucket_encode}
use Rattle.model.proofs.calls.IndexCauses.{entries_wf, entries_bucket, given_entries, given_places}
use Rattle.model.proofs.buckets.Entries.{length_entry}
use Rattle.model.proofs.buckets.Index.{index_rises, index_most, slot_length}

-- ---- a checked index, and a slot of the table

module _ (p l x : List ℕ) (a : Result ℕ Refusal) (e : a ≡ check_index_answer p l x) (m : ℕ) (f : a ≡ Ok m) where
  none_given : first (given_causes false false p l x) ≡ none
  none_given = accepted (given_causes false false p l x) (length (entries l)) a e m f

  -- there is a slot
  pub slot_there : 1 ≤ length p / 66
  slot_there = omega (arith, length_elements p, wf_count (elements p) (entries_wf false false p l (given_entries false false p l x none_given)))

  -- past the last there is none
  pub no_slot : (i : ℕ) → length p / 66 - 1 ≤ i → Err NoSuchSlot ≡ slot_entries_answer p l x i
  no_slot i h =
      let k : NumBuckets (elements p) ≤ i = omega (arith, length_elements p) in
      after Err (Ok (length (slot_entries (elements p) (entries l) i))) (Err NoSuchSlot) (given_causes false false p l x) _ none_given
      (unfold outcome in (rw (le-ltb i (NumBuckets (elements p)) k)))

  module _ (i : ℕ) (h : i < length p / 66 - 1) (n k : ℕ) (g : n ≡ place_at (places x) (i + 1)) (j : k ≡ place_at (places x) i) where
    next_place : n ≡ place_at (Index (elements p) (entries l)) (i + 1)
    next_place = g ∙ ap (λ (ns : List ℕ). place_at ns (i + 1)) (given_places false false p l x none_given)

    this_place : k ≡ place_at (Index (elements p) (entries l)) i
    this_place = j ∙ ap (λ (ns : List ℕ). place_at ns i) (given_places false false p l x none_given)

    -- places rise
    pub places_rise : k ≤ n
    places_rise =
        rw (next_place, this_place)
        (index_rises (elements p) (entries l) (wf_sorted (elements p) (entries_wf false false p l (given_entries false false p l x none_given))) i (i + 1) (omega arith) (omega (arith, length_elements p)))

    -- between them lie the slot's entries
    pub slot_counted : Ok (n - k) ≡ slot_entries_answer p l x i
    slot_counted =
        let o : i < NumBuckets (elements p) = omega (arith, length_elements p) in
        after Err (Ok (length (slot_entries (elements p) (entries l) i))) (Ok (n - k)) (given_causes false false p l x) _ none_given
        (unfold outcome in (rw (lt-ltb i (NumBuckets (elements p)) o, slot_length (elements p) (entries l) i o, next_place, this_place)))

-- ---- the part of the bucket

module _ (p l x : List ℕ) (i : ℕ) (a : Result ℕ Refusal) (e : a ≡ slot_entries_answer p l x i) (n : ℕ) (f : a ≡ Ok n) where
  answered : slot_entries_answer p l x i ≡ Ok n
  answered = sym e ∙ f

  here : i < NumBuckets (elements p)
  here = part_inside p l x i n answered

  given : first (given_causes false false p l x) ≡ none
  given = none_before (given_causes false false p l x) _ (accepted (slot_entries_causes p l x i) (length (slot_entries (elements p) (entries l) i)) a e n f)

  bucket : first (bucket_causes false l) ≡ none
  bucket = entries_bucket false false p l (given_entries false false p l x given)

  module _ (k : ℕ) (g : k ≡ place_at (places x) i) where
    from : k ≡ place_at (Index (elements p) (entries l)) i
    from = g ∙ ap (λ (ns : List ℕ). place_at ns i) (given_places false false p l x given)

    upto : n ≡ place_at (Index (elements p) (entries l)) (i + 1) - place_at (Index (elements p) (entries l)) i
    upto =
        value_is (slot_entries_causes p l x i) (length (slot_entries (elements p) (entries l) i)) a e n f
        ∙ slot_length (elements p) (entries l) i here

    -- the part ends inside the bucket
    ends : k + n ≤ length (entries l)
    ends =
        omega
        (arith, from, upto, index_most (elements p) (entries l) (i + 1) (omega (arith, here)), index_most (elements p) (entries l) i (omega (arith, here)), index_rises (elements p) (entries l) (wf_sorted (elements p) (entries_wf false false p l (given_entries false false p l x given))) i (i + 1) (omega arith) (omega (arith, here)))

    pub part_inside_bucket : k * entry_size + n * entry_size ≤ length l
    part_inside_bucket = omega (arith, ends, bucket_count false l bucket, bucket_whole false l bucket)

    pub from_fits : Fits w64 (k * entry_size)
    from_fits = record { fits = omega (arith, ends, bucket_count false l bucket, bucket_most false l bucket) }

    pub bytes_fit : Fits w64 (n * entry_size)
    bytes_fit = record { fits = omega (arith, ends, bucket_count false l bucket, bucket_most false l bucket) }

    pub end_fits : Fits w64 (k * entry_size + n * entry_size)
    end_fits = record { fits = omega (arith, ends, bucket_count false l bucket, bucket_most false l bucket) }

    -- it is the bytes of the slot's entries
    pub part_is_slot : ((j : ℕ) → Fits w8 (get_or l j 0)) → take (k * entry_size + n * entry_size - k * entry_size) (drop (k * entry_size) l) ≡ slot_entries_part p l x i
    unfolding slot_entries encode_bucket
    part_is_slot b =
        let s = bucket_sized false l bucket in
        let w : encode_bucket (entries l) ≡ l = bucket_encode false l bucket (bytes_of l b) in
        let d : joined (map encode_entry (drop k (entries l))) ≡ drop (k * entry_size) l = rw (joined_drop entry_size sized_entry encode_entry length_entry k (entries l) (omega (arith, ends)) s, w) in
        let t : joined (map encode_entry (take n (drop k (entries l)))) ≡ take (n * entry_size) (drop (k * entry_size) l) = rw (joined_take entry_size sized_entry encode_entry length_entry n (drop k (entries l)) (omega (arith, ends, length-drop k (entries l))) (all_parts sized_entry k (entries l) s).1, d) in
        let q : encode_bucket (slot_entries (elements p) (entries l) i) ≡ joined (map encode_entry (take n (drop k (entries l)))) = rw (upto, from) in
        rw add-sub_cancel_left (sym t ∙ sym q ∙ sym (part_is p l x given i here))
