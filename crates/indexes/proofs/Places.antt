-- Places: where the entries below an element end, and a place as two bytes.
use mathlib.Core.Path.{◌≡◌, sym, ◌∙◌}
use mathlib.Core.Bool.{Bool, true, false, not}
use mathlib.Core.List.{List, []}
use Prim.Native.Nat.{ℕ, ◌+◌, ◌*◌, ◌-◌, ◌/◌, ◌≤◌, ◌<◌}
use native.Mathlib.Nat.{add-sub_cancel_left}
use native.Mathlib.Omega.{arith}
use borrow.Author.Tests.{not-true, not-false, ltb-true, ltb-false}
use lib.Dec.{ltb}
use lib.ListN.{length, take, drop, get_or, get_or-eq_default}
use Rattle.model.specs.keys.Order.{lt}
use Rattle.model.specs.records.Record.{element, length_field, pieces}
use Rattle.model.specs.inner.Places.{entry_at}
use Rattle.model.specs.buckets.Bucket.{entry_size, entry_record, entries}
use Rattle.model.specs.buckets.Index.{is_below, entries_below, place_at, place_size, places}
use Rattle.model.proofs.Lists.{get_d_map}
use Rattle.model.proofs.records.Records.{length_pieces, piece_at}
use Rattle.model.proofs.calls.BucketCalls.{bucket_read}
use Rattle.model.proofs.buckets.IndexBytes.{length_places}
use Rattle.model.proofs.buckets.Below.{below_at, below_most}
use Rattle.entries.proofs.Places.{length_entries}
use Rattle.entry_order.specs.Rising.{Rising}
use Rattle.entry_order.proofs.Entries.{none_such, key_here}

-- ---- the scan for a place: no entry before it isn't below

module _ (l r : List ℕ) (w : Rising l) (i : ℕ) (m : i ≤ length (entries_below (element r) (entries l))) where
  -- at the end all are below
  pub below_over : length l / entry_size ≤ i → length l / entry_size ≡ length (entries_below (element r) (entries l))
  below_over h = omega (arith, below_most (element r) (entries l), length_entries l)

  -- an entry is below where its record is
  module _ (h : i < length l / entry_size) (t : Bool) (g : t ≡ lt (element (entry_record (entry_at l i))) (element r)) where
    here_below : t ≡ ltb i (length (entries_below (element r) (entries l)))
    here_below =
        let e : lt (element (entry_record (entry_at l i))) (element r) ≡ is_below (element r) (get_or (entries l) i none_such) = rw (key_here l (bucket_read false l w.read) i h none_such) in
        g ∙ e ∙ below_at (element r) (entries l) w.rise i none_such (omega (arith, length_entries l))

    -- one that isn't is at the place
    pub stops_here : not t ≡ true → i ≡ length (entries_below (element r) (entries l))
    stops_here k = let z = ltb-false i (length (entries_below (element r) (entries l))) (sym here_below ∙ not-true t k) in omega arith

    -- one that is comes before it
    pub goes_on : not t ≡ false → i + 1 ≤ length (entries_below (element r) (entries l))
    goes_on k = let z = ltb-true i (length (entries_below (element r) (entries l))) (sym here_below ∙ not-false t k) in omega arith

-- ---- as two bytes

module _ (x : List ℕ) (i : ℕ) where
  -- past the last
  pub no_place : length x / 2 ≤ i → 0 ≡ place_at (places x) i
  no_place h = sym (get_or-eq_default (places x) 0 (omega (arith, length_places x)))

  pub place_read : i < length x / 2 → (n : ℕ) → n ≡ length_field (take (i * 2 + 2 - i * 2) (drop (i * 2) x)) → n ≡ place_at (places x) i
  unfolding places
  place_read h n e =
      e ∙ rw (add-sub_cancel_left, ← piece_at place_size (length x / 2) i x h) (sym (get_d_map length_field (pieces place_size (length x / 2) x) i 0 [] (omega (arith, length_pieces place_size (length x / 2) x))))
