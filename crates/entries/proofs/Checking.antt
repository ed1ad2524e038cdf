-- The pass over entries that reads them: what is known of all of them by what is left.
use mathlib.Core.Path.{◌≡◌, sym, ◌∙◌}
use mathlib.Core.Bool.{Bool, true, false, not, ◌&&◌}
use mathlib.Core.List.{List, []}
use Prim.Native.Nat.{ℕ, ◌+◌, ◌/◌, ◌≤◌, ◌<◌}
use native.Mathlib.Numerals.{add-one}
use native.Mathlib.Omega.{arith}
use borrow.Author.Tests.{not-true, not-false}
use lib.ListN.{length, drop, drop_of_length-le}
use lib.Seq.{drop-cons}
use Rattle.model.specs.records.Record.{reading, key_reading}
use Rattle.model.specs.tables.Tables.{all}
use Rattle.model.specs.buckets.Bucket.{entry_size, entry_record, entry_bytes}
use Rattle.model.specs.calls.BucketCalls.{entries_read}
use Rattle.model.specs.inner.Places.{entry_at}
use Rattle.entries.proofs.Places.{length-entry_bytes}

module _ (l : List ℕ) (i : ℕ) (w : entries_read (entry_bytes l) ≡ entries_read (drop i (entry_bytes l))) where
  -- at the end all are read
  pub read_over : length l / entry_size ≤ i → true ≡ entries_read (entry_bytes l)
  unfolding entries_read all
  read_over h =
      let q : length (entry_bytes l) ≤ i = omega (arith, length-entry_bytes l) in
      rw (w, drop_of_length-le (entry_bytes l) q)

  module _ (e : List ℕ) (t : Bool) (h : i < length l / entry_size) (f : e ≡ entry_at l i) (g : t ≡ key_reading (reading (entry_record e))) where
    here_read : entries_read (entry_bytes l) ≡ (t && entries_read (drop (i + 1) (entry_bytes l)))
    unfolding entries_read all
    here_read = rw (g, f) (w ∙ rw (drop-cons (entry_bytes l) i [] (omega (arith, length-entry_bytes l)), add-one))

    -- one that isn't a key's makes the answer
    pub not_read : not t ≡ true → false ≡ entries_read (entry_bytes l)
    not_read k = sym (rw (not-true t k) at here_read)

    -- else those after it do
    pub next_read : not t ≡ false → entries_read (entry_bytes l) ≡ entries_read (drop (i + 1) (entry_bytes l))
    next_read k = rw (not-false t k) at here_read
