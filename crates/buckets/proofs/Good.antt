-- A bucket and prefixes that have none of the causes 1 and 2.
use mathlib.Core.Path.{◌≡◌}
use mathlib.Core.List.{List, []}
use Prim.Native.Nat.{ℕ, ◌/◌, ◌≤◌, ◌<◌}
use native.Mathlib.Omega.{arith}
use lib.ListN.{length}
use Rattle.model.specs.keys.Key.{Key}
use Rattle.model.specs.records.Record.{reading, key_reading}
use Rattle.model.specs.buckets.Bucket.{entry_size, max_entries, entry_record, entry_bytes}
use Rattle.model.specs.calls.BucketCalls.{entries_read, new_bucket}
use Rattle.model.specs.inner.Places.{entry_at}
use Rattle.model.proofs.Lists.{all_inside}
use Rattle.model.proofs.calls.BucketCalls.{bucket_read, bucket_most}
use Rattle.entries.proofs.Places.{length-entry_bytes, entry_size_lem}
use Rattle.bucket_measures.specs.Kept.{Good}
use Rattle.bucket_measures.proofs.Measuring as measuring
use Rattle.buckets.specs.Checked.{CheckedEntry}

module _ (l : List ℕ) (p q : Key) (h : Good l p q) where
  -- each of its entries is checked
  pub entry_checked : (i : ℕ) (e : List ℕ) → i < length l / entry_size → e ≡ entry_at l i → CheckedEntry e
  unfolding entries_read
  entry_checked i e k g =
      let j : i < length (entry_bytes l) = omega (arith, length-entry_bytes l) in
      record {
        size = rw g (entry_size_lem l i k);
        reads = rw g (all_inside (λ (x : List ℕ). key_reading (reading (entry_record x))) (entry_bytes l) i [] j (bucket_read _ l h));
      }

  -- no more are kept than a bucket may have
  pub kept_most : length (new_bucket l p q) ≤ max_entries
  kept_most = omega (arith, measuring.kept_most l p q, bucket_most _ l h)
