use mathlib.Core.Path.{ap}
use mathlib.Core.Bool.{not}
use borrow.Author.Rules.{rules}
use Rattle.entry_order.proofs.Rise.{falls, rises_on}
use Rattle.entry_order.proofs.entries_rise.Goals as goal

pub returns-then-not-rises_at : goal.returns-then-not-rises_at
returns-then-not-rises_at c = falls _ c.requires _ c.loop-i.invariant _ c.saturating_sub-i-end.ensures (search rules) _ c.rises_at.ensures (ap not c.if-not-rises_at.true)

pub loop-i-preserved : goal.loop-i-preserved
loop-i-preserved c = rises_on _ c.requires _ c.loop-i.invariant _ c.saturating_sub-i-end.ensures (search rules) _ c.rises_at.ensures (ap not c.if-not-rises_at.false)
