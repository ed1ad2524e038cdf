-- One side of a cut: what it has of the bucket and of the index lent, and what is answered and left.
use Rattle.std.specs.Prelude.{Result, Ok, Err}
use mathlib.Core.Path.{◌≡◌, refl, ap, ◌∙◌}
use mathlib.Core.Bool.{Bool, true, false}
use mathlib.Core.List.{List, map}
use mathlib.Core.Option.{none}
use Prim.Native.Nat.{ℕ, ◌+◌, ◌*◌, ◌-◌, ◌/◌, ◌≤◌, ◌<◌}
use native.Mathlib.Omega.{arith}
use mir.Syntax.{w8, w64}
use mir.Val.{Fits}
use lib.ListN.{length, take, drop, get_or, length-drop}
use lib.Seq.{length-take-le}
use Rattle.model.specs.declared.Refusal.{Refusal}
use Rattle.model.specs.keys.Key.{too_long}
use Rattle.model.specs.keys.Order.{key}
use Rattle.model.specs.records.Record.{elements}
use Rattle.model.specs.tables.Tables.{WFPivots, NumBuckets, BoundedKey, ValidLeftCutOffKey, CutoffForLeft, CutoffForRight}
use Rattle.model.specs.cuts.Sides.{inside, cutoff}
use Rattle.model.specs.buckets.Bucket.{entry_size, entries, encode_bucket, entries_rise}
use Rattle.model.specs.buckets.Index.{entries_below, place_size, encode_index, places}
use Rattle.model.specs.calls.Refusals.{outcome, first, answer, leaves}
use Rattle.model.specs.calls.CutCalls.{cut_pivots, room_causes}
use Rattle.model.specs.calls.BucketCalls.{bucket_causes}
use Rattle.model.specs.calls.IndexCalls.{entries_causes, given_causes, cut_entries, cut_index, cut_index_causes, cut_index_answer, cut_index_leaves_bucket, cut_index_leaves_index}
use Rattle.model.proofs.Lists.{rest}
use Rattle.model.proofs.keys.Key.{bytes_of}
use Rattle.model.proofs.tables.Slots.{wf_says}
use Rattle.model.proofs.tables.Routing.{route_inside, cutoff_right_is_route, cutoff_left_inside}
use Rattle.model.proofs.cuts.Cuts.{left_length, right_length}
use Rattle.model.proofs.calls.Refusals.{accepted, value_is, refused, refused_first, after}
use Rattle.model.proofs.calls.TableCalls.{causes_most}
use Rattle.model.proofs.calls.BucketCalls.{bucket_whole, bucket_most}
use Rattle.model.proofs.calls.IndexCauses.{entries_pivots, entries_wf, entries_bucket, entries_rise_lem, given_entries, given_index, given_length}
use Rattle.model.proofs.buckets.IndexCuts.{index_left, index_right, places_take, places_drop, from_count, below_inside, below_bytes, from_bytes}
use Rattle.index_writes.specs.Beside.{place_beside}

-- e are the bytes of the side's entries, and the places of y become its index
pub record Side (left : Bool) (p l k : List ℕ) (n : ℕ) (e y : List ℕ) : Type 0 where
  pub bytes : encode_bucket (cut_entries left l k) ≡ e
  pub count : length e ≡ length (cut_entries left l k) * entry_size
  pub index : encode_index (cut_index left p l k) ≡ encode_index (map (place_beside left n) (places y))
  pub size : length y ≡ length (cut_pivots left p k) * place_size

-- the slot that is cut is one of the table's
slot_there : (left : Bool) (p k : List ℕ) → WFPivots (elements p) ≡ true → inside left (elements p) k ≡ true → cutoff left (elements p) k < NumBuckets (elements p)
slot_there true p k w i = cutoff_left_inside (elements p) k w i
slot_there false p k w i = rw (cutoff_right_is_route (elements p) k) (route_inside (elements p) k w i)

module _ (left : Bool) (p l x k : List ℕ) (c : ℕ) (a : Result ℕ Refusal) (i : inside left (elements p) k ≡ true) (f : c ≡ cutoff left (elements p) k)
    (q : a ≡ answer (given_causes (too_long k) false p l x) (length (entries_below (key k) (entries l)))) where
  -- the check's refusal is the cut's
  pub side_refused : {A : Type 0} (g : Refusal → A) (v z : A) (db dx : List ℕ) (r : Refusal) → a ≡ Err r → z ≡ g r → z ≡ outcome g (cut_index_causes left p l x k db dx) v
  side_refused g v z db dx r h e = rw i (refused_first g v z (given_causes (too_long k) false p l x) _ r (refused _ _ a q r h) e)

  module _ (n : ℕ) (h : a ≡ Ok n) where
    given : first (given_causes (too_long k) false p l x) ≡ none
    given = accepted _ _ a q n h

    lent : first (entries_causes (too_long k) false p l) ≡ none
    lent = given_entries _ _ p l x given

    wf : WFPivots (elements p) ≡ true
    wf = entries_wf _ _ p l lent

    held : first (bucket_causes false l) ≡ none
    held = entries_bucket _ _ p l lent

    rises : entries_rise (entries l) ≡ true
    rises = entries_rise_lem _ _ p l lent

    counted : n ≡ length (entries_below (key k) (entries l))
    counted = value_is _ _ a q n h

    -- ---- places within bucket and index

    slot : c + 2 ≤ length (elements p)
    slot = omega (arith, slot_there left p k wf i, f)

    pub cut_inside : n * entry_size ≤ length l
    cut_inside = rw counted (below_inside l (key k) held rises)

    pub end_inside : (m : ℕ) → m ≤ 2 → (c + m) * 2 ≤ length x
    end_inside m u = omega (arith, slot, given_length _ _ p l x given)

    pub at_inside : c * 2 ≤ length x
    at_inside = omega (arith, slot, given_length _ _ p l x given)

    pub cut_fits : Fits w64 (n * entry_size)
    cut_fits = record { fits = omega (arith, cut_inside, bucket_whole false l held, bucket_most false l held) }

    most : c + 2 ≤ 64
    most = omega (arith, slot, causes_most _ _ p (entries_pivots _ _ p l lent))

    pub next_fits : (m : ℕ) → m ≤ 2 → Fits w64 (c + m)
    next_fits m u = record { fits = omega (arith, most) }

    pub end_fits : (m : ℕ) → m ≤ 2 → Fits w64 ((c + m) * 2)
    end_fits m u = record { fits = omega (arith, most) }

    pub at_fits : Fits w64 (c * 2)
    at_fits = record { fits = omega (arith, most) }

    -- ---- what is lent on

    module _ (b : (j : ℕ) → Fits w8 (get_or l j 0)) where
      pub left_side : left ≡ true → Side left p l k n (take (n * entry_size) l) (take ((c + 2) * 2) x)
      left_side t =
          let v : ValidLeftCutOffKey (elements p) k ≡ true = rw t at i in
          let g : c ≡ CutoffForLeft (elements p) k = rw t at f in
          let d = places_take (elements p) (entries l) x (given_index _ _ p l x given) (c + 2) slot in
          rw t
          record {
            bytes = rw counted (below_bytes l (key k) held rises (bytes_of l b));
            count = rw (length-take-le (n * entry_size) l cut_inside, counted);
            index = ap encode_index (index_left (elements p) k (entries l) wf v ∙ rw (d, counted, g));
            size = rw (length-take-le ((c + 2) * 2) x (end_inside 2 (omega arith)), left_length (wf_says (elements p) wf).table k v, g);
          }

      pub right_side : left ≡ false → Side left p l k n (take (length l - n * entry_size) (drop (n * entry_size) l)) (take (length x - c * 2) (drop (c * 2) x))
      right_side t =
          let v : BoundedKey (elements p) k ≡ true = rw t at i in
          let g : c ≡ CutoffForRight (elements p) k = rw t at f in
          let d = places_drop (elements p) (entries l) x (given_index _ _ p l x given) c (omega (arith, slot)) in
          rw (t, rest, rest)
          record {
            bytes = rw counted (from_bytes l (key k) held rises (bytes_of l b));
            count = rw (length-drop (n * entry_size) l) (omega (arith, counted, from_count l (key k) held rises, bucket_whole false l held));
            index = ap encode_index (index_right (elements p) k (entries l) wf v ∙ rw (d, counted, g));
            size = rw (length-drop (c * 2) x) (omega (arith, g, given_length _ _ p l x given, right_length (wf_says (elements p) wf).table k v));
          }

    -- ---- and what is made of it

    module _ (e y : List ℕ) (s : Side left p l k n e y) (db dx : List ℕ) where
      same_causes : {A : Type 0} (g : Refusal → A) (v : A) → outcome g (room_causes (length e) (length y) db dx) v ≡ outcome g (cut_index_causes left p l x k db dx) v
      same_causes g v = rw (i, s.count, s.size) (after g v _ (given_causes (too_long k) false p l x) _ given refl)

      pub side_answered : (z : Result ℕ Refusal) → z ≡ answer (room_causes (length e) (length y) db dx) (length e / entry_size) → z ≡ cut_index_answer left p l x k db dx
      side_answered z u =
          let m : length e / entry_size ≡ length (cut_entries left l k) = omega (arith, s.count) in
          u ∙ rw m (same_causes Err (Ok (length (cut_entries left l k))))

      pub side_bucket : (w : List ℕ) → w ≡ leaves (room_causes (length e) (length y) db dx) e db → w ≡ cut_index_leaves_bucket left p l x k db dx
      side_bucket w u = u ∙ rw s.bytes (same_causes (λ (r : Refusal). db) _)

      pub side_index : (w : List ℕ) → w ≡ leaves (room_causes (length e) (length y) db dx) (encode_index (map (place_beside left n) (places y))) dx → w ≡ cut_index_leaves_index left p l x k db dx
      side_index w u = u ∙ rw s.index (same_causes (λ (r : Refusal). dx) _)
