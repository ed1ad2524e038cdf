use Rattle.buckets.proofs.Appending.{Written}
use Rattle.buckets.proofs.write.put_entries.Given as goal

abbrev pub invariant-loop-i : goal.invariant-loop-i
invariant-loop-i l = Written l.bucket l.prefix l.new_prefix l.initial.dest l.dest l.i l.at
