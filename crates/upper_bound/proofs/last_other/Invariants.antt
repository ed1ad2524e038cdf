use lib.IntN.{pos, nat_abs, ◌+ℤ◌}
use Rattle.upper_bound.proofs.Down.{Down}
use Rattle.upper_bound.proofs.last_other.Given as goal

abbrev pub invariant-loop-i : goal.invariant-loop-i
invariant-loop-i l = Down l.p l.i

abbrev pub decreases-loop-i : goal.decreases-loop-i
decreases-loop-i l = nat_abs (l.i +ℤ pos 1)
