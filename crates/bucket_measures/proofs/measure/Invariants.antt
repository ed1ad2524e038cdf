use Rattle.bucket_measures.proofs.Measuring.{Measured}
use Rattle.bucket_measures.proofs.measure.Given as goal

abbrev pub invariant-loop-i : goal.invariant-loop-i
invariant-loop-i l = Measured l.bucket l.prefix l.new_prefix l.i l.kept
