use mathlib.Core.Path.{ap}
use mathlib.Core.Bool.{not}
use Rattle.changed_pivots.proofs.KeyPass.{pass_next}
use Rattle.changed_pivots.proofs.check_keys.Goals as goal
use borrow.Author.Rules.{rules}
use Rattle.changed_pivots.proofs.Rules.{check_keys}

pub loop-i-preserved : goal.loop-i-preserved
loop-i-preserved c =
    pass_next _ _ _ _ _ c.loop-i.invariant _ _ _ (search rules) c.record_at.ensures
    c.key_bytes-k.ensures c.is_prefix.ensures _ (ap not c.if-not-is_prefix.false) c.fits_too-fit.ensures

pub returns-then-not-is_prefix : goal.returns-then-not-is_prefix
returns-then-not-is_prefix c = search (rules, check_keys)
