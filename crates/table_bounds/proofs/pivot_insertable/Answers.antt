use borrow.Author.Rules.{rules}
use Rattle.table_bounds.proofs.Rules.{pivot_insertable}
use Rattle.table_bounds.proofs.pivot_insertable.Goals as goal

pub returns-in_err-check_pivots : goal.returns-in_err-check_pivots
returns-in_err-check_pivots c = search (rules, pivot_insertable, c.in_err-check_pivots.was)
