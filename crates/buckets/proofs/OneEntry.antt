-- What one entry leaves in a renamed bucket, as bytes.
use mathlib.Core.Path.{◌≡◌, sym}
use mathlib.Core.Bool.{Bool, true, false, not}
use mathlib.Core.List.{List, append-nil}
use Prim.Native.Nat.{ℕ, ◌≤◌}
use native.Mathlib.Omega.{arith}
use borrow.Author.Tests.{not-true}
use lib.ListN.{length}
use Rattle.model.specs.keys.Key.{Key, IsPrefix}
use Rattle.model.specs.records.Record.{record_size, joined}
use Rattle.model.specs.tables.Tables.{all}
use Rattle.model.specs.buckets.Bucket.{entry_size, entry_of, encode_entry, encode_bucket, translate_entry, sized_entry}
use Rattle.model.specs.calls.Refusals.{over}
use Rattle.model.specs.calls.BucketCalls.{short_entry}
use Rattle.model.proofs.keys.Key.{both}
use Rattle.model.proofs.buckets.Entries.{sized, entry_sized, length_entry}
use Rattle.bucket_measures.specs.Kept.{kept_of}
use Rattle.bucket_measures.proofs.OneKept.{kept_is, one_is}
use Rattle.buckets.specs.Checked.{CheckedEntry, kept_bytes}

-- a checked entry has a record at its head
pub record_first : (e : List ℕ) → CheckedEntry e → record_size ≤ length e
record_first e w = omega (arith, w.size)

module _ (e : List ℕ) (p q : Key) (t : Bool) (g : t ≡ IsPrefix p (entry_of e).key) where
  -- what leaves nothing has no bytes
  pub none_long : not t ≡ true → 0 ≡ length (kept_bytes e p q)
  unfolding encode_bucket joined
  none_long h = rw (kept_is e p q t g, not-true t h)

  -- and changes none
  pub none_written : (d : List ℕ) → not t ≡ true → d ≡ over (kept_bytes e p q) d
  unfolding encode_bucket joined over
  none_written d h = rw (kept_is e p q t g, not-true t h)

  module _ (h : not t ≡ false) (s : all short_entry (kept_of e p q) ≡ true) where
    -- a kept entry that is measured is short
    pub one_short : short_entry (translate_entry p q (entry_of e)) ≡ true
    unfolding all
    one_short = (both (short_entry (translate_entry p q (entry_of e))) true (rw (one_is e p q t g h) at s)).0

    one_bytes : kept_bytes e p q ≡ encode_entry (translate_entry p q (entry_of e))
    unfolding encode_bucket joined
    one_bytes = rw (one_is e p q t g h) (append-nil (encode_entry (translate_entry p q (entry_of e))))

    module _ (w : CheckedEntry e) where
      -- it has the bytes of an entry
      pub one_long : entry_size ≡ length (kept_bytes e p q)
      one_long =
          let n = (sized (entry_of e) (entry_sized e w.size w.reads)).1 in
          let z : sized_entry (translate_entry p q (entry_of e)) ≡ true = rw (one_short, n) in
          rw one_bytes (sym (length_entry (translate_entry p q (entry_of e)) z))

      -- and room where these have
      pub one_room : (d : List ℕ) → length (kept_bytes e p q) ≤ length d → entry_size ≤ length d
      one_room d r = omega (arith, one_long)

    -- its translation is what it leaves
    pub one_written : (d v : List ℕ) → v ≡ over (encode_entry (translate_entry p q (entry_of e))) d → v ≡ over (kept_bytes e p q) d
    one_written d v r = rw one_bytes r

-- `put_entry`, by its tests
pub ruleset one_entry = (record_first, none_long, none_written, one_short, one_long, one_room, one_written)
