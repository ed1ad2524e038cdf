use Rattle.model.specs.calls.BucketCalls.{entries_read}
use Rattle.model.specs.buckets.Bucket.{entry_bytes}
use lib.ListN.{drop}
use mathlib.Core.Path.{◌≡◌}
use Rattle.entries.proofs.check.entries_read.Given as goal

abbrev pub invariant-loop-i : goal.invariant-loop-i
invariant-loop-i l = entries_read (entry_bytes l.bucket) ≡ entries_read (drop l.i (entry_bytes l.bucket))
