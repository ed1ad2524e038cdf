use Rattle.index_translation.proofs.Placing.{Placing}
use Rattle.index_translation.proofs.kept.write_kept.Given as goal

abbrev pub invariant-loop-i : goal.invariant-loop-i
invariant-loop-i l = Placing l.bucket l.prefix l.index l.initial.dest l.dest l.i l.from l.kept
