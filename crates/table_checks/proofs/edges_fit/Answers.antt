use mathlib.Core.Path.{ap}
use mathlib.Core.Bool.{not}
use borrow.Author.Rules.{rules}
use Rattle.table_checks.proofs.EdgePass.{stand_next}
use Rattle.table_checks.proofs.edges_fit.Goals as goal

pub loop-i-preserved : goal.loop-i-preserved
loop-i-preserved c = stand_next _ _ _ c.loop-i.invariant _ (search rules) c.slot_fits.ensures (ap not c.if-not-slot_fits.false)
