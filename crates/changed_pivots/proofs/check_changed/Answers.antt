use borrow.Author.Rules.{rules}
use Rattle.changed_pivots.proofs.Rules.{check_changed}
use Rattle.changed_pivots.proofs.check_changed.Goals as goal

pub returns-in_err-check_pivots : goal.returns-in_err-check_pivots
returns-in_err-check_pivots c = search (rules, check_changed, c.in_err-check_pivots.was)

pub check_keys-requires : goal.check_keys-requires
check_keys-requires c = search (rules, check_changed, c.in_ok-check_pivots.was)
