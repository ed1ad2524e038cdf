use borrow.Author.Rules.{rules}
use Rattle.tables.proofs.Rules.{get_key}
use Rattle.tables.proofs.get.get_key.Goals as goal

pub returns-in_err-check_pivots : goal.returns-in_err-check_pivots
returns-in_err-check_pivots c = search (rules, get_key, c.in_err-check_pivots.was)
