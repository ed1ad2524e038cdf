use borrow.Author.Rules.{rules}
use Rattle.table_bounds.proofs.Rules.{ask_within}
use Rattle.table_bounds.proofs.ask_within.Goals as goal

pub returns-in_err-check_pivots : goal.returns-in_err-check_pivots
returns-in_err-check_pivots c = search (rules, ask_within, c.in_err-check_pivots.was)
