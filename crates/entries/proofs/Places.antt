-- The entry at a place among the bytes of a bucket.
use mathlib.Core.Path.{◌≡◌, sym, ◌∙◌}
use mathlib.Core.List.{List, []}
use Prim.Native.Nat.{ℕ, ◌+◌, ◌*◌, ◌-◌, ◌/◌, ◌≤◌, ◌<◌}
use native.Mathlib.Nat.{add-sub_cancel_left}
use native.Mathlib.Omega.{arith}
use lib.ListN.{length, take, drop, length-drop, length-map, get_or-eq_default}
use lib.Seq.{length-take-le}
use Rattle.model.specs.records.Record.{record_size}
use Rattle.model.specs.buckets.Bucket.{entry_size, entry_of, entry_bytes, entry_bytes_by, entries}
use Rattle.model.proofs.records.Records.{length_pieces, piece_at}
use Rattle.model.specs.inner.Places.{entry_at}

-- there are as many as their size goes into the bytes
pub length-entry_bytes : (l : List ℕ) → length (entry_bytes l) ≡ length l / entry_size
unfolding entry_bytes_by
length-entry_bytes l = length_pieces entry_size (length l / entry_size) l

-- there are as many entries as their size goes into the bytes
pub length_entries : (l : List ℕ) → length (entries l) ≡ length l / entry_size
unfolding entries
length_entries l = length-map (entry_bytes l) entry_of ∙ length-entry_bytes l

module _ (l : List ℕ) (i : ℕ) where
  -- past the last there is none
  pub past_entries : length l / entry_size ≤ i → [] ≡ entry_at l i
  past_entries h = sym (get_or-eq_default (entry_bytes l) [] (omega (arith, length-entry_bytes l)))

  module _ (h : i < length l / entry_size) where
    -- inside the bucket it is the part at its place
    pub entry_part : take (i * entry_size + entry_size - i * entry_size) (drop (i * entry_size) l) ≡ entry_at l i
    unfolding entry_bytes_by
    entry_part = rw (add-sub_cancel_left, piece_at entry_size (length l / entry_size) i l h)

    -- and has its size
    pub entry_size_lem : length (entry_at l i) ≡ entry_size
    unfolding entry_bytes_by
    entry_size_lem =
        rw (piece_at entry_size (length l / entry_size) i l h)
        (length-take-le entry_size (drop (i * entry_size) l) (omega (arith, length-drop (i * entry_size) l)))

    -- so that there is a record at its head
    pub record_there : (e : List ℕ) → e ≡ entry_at l i → record_size ≤ length e
    record_there e g = rw g (omega (arith, entry_size_lem))
