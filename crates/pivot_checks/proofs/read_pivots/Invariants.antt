use Rattle.pivot_checks.proofs.PivotPass.{Pass}
use Rattle.pivot_checks.proofs.read_pivots.Given as goal

abbrev pub invariant-loop-i : goal.invariant-loop-i
invariant-loop-i l = Pass l.pivots l.i l.rises
