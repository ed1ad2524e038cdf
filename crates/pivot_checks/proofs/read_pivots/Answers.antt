use mathlib.Core.Path.{ap}
use mathlib.Core.Bool.{not}
use Rattle.pivot_checks.proofs.PivotPass.{turn}
use Rattle.pivot_checks.proofs.read_pivots.Goals as goal
use borrow.Author.Rules.{rules}
use Rattle.pivot_checks.proofs.Rules.{read_pivots}

pub loop-i-preserved : goal.loop-i-preserved
loop-i-preserved c = turn _ _ _ c.loop-i.invariant (search rules) _ _ c.record_at-in-loop-i.ensures c.holds_pivot.ensures (ap not c.if-not-holds_pivot.false) _ c.rises_on-rises.ensures

pub returns-then-not-holds_pivot : goal.returns-then-not-holds_pivot
returns-then-not-holds_pivot c = search (rules, read_pivots)
