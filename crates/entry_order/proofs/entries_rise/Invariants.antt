use Rattle.model.specs.buckets.Bucket.{entries, entries_rise}
use lib.ListN.{drop}
use mathlib.Core.Path.{◌≡◌}
use Rattle.entry_order.proofs.entries_rise.Given as goal

abbrev pub invariant-loop-i : goal.invariant-loop-i
invariant-loop-i l = entries_rise (entries l.bucket) ≡ entries_rise (drop l.i (entries l.bucket))
