use Rattle.model.specs.records.Record.{element}
use Rattle.model.specs.buckets.Bucket.{entries}
use Rattle.model.specs.buckets.Index.{entries_below}
use lib.ListN.{length}
use Prim.Native.Nat.{◌≤◌}
use Rattle.indexes.proofs.place.place_from.Given as goal

abbrev pub invariant-loop-i : goal.invariant-loop-i
invariant-loop-i l = l.i ≤ length (entries_below (element l.rec) (entries l.bucket))
