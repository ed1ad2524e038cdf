use Rattle.indexes.proofs.Merging.{Merged}
use Rattle.indexes.proofs.merge.write_index.Given as goal

abbrev pub invariant-loop-i : goal.invariant-loop-i
invariant-loop-i l = Merged l.pivots l.bucket l.initial.dest l.dest l.below l.i
