use Rattle.index_translation.proofs.Counting.{Counted}
use Rattle.index_translation.proofs.kept.kept_between.Given as goal

abbrev pub invariant-loop-i : goal.invariant-loop-i
invariant-loop-i l = Counted l.bucket l.prefix l.from l.to l.i l.kept
