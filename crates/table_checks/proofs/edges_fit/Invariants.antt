use Rattle.table_checks.proofs.EdgePass.{Standing}
use Rattle.table_checks.proofs.edges_fit.Given as goal

abbrev pub invariant-loop-i : goal.invariant-loop-i
invariant-loop-i l = Standing l.pivots l.edges l.i
