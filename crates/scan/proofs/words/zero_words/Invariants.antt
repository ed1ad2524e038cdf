use Rattle.scan.proofs.Zeros.{Cleared}
use Rattle.scan.proofs.words.zero_words.Given as goal

abbrev pub invariant-loop-i : goal.invariant-loop-i
invariant-loop-i l = Cleared l.a l.from l.i
