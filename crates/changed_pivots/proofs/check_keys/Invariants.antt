use Rattle.changed_pivots.proofs.KeyPass.{Passing}
use Rattle.changed_pivots.proofs.check_keys.Given as goal

abbrev pub invariant-loop-i : goal.invariant-loop-i
invariant-loop-i l = Passing l.pivots l.prefix l.new_prefix l.fit l.i
