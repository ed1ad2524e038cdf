use borrow.Author.Rules.{rules}
use Rattle.table_questions.proofs.Rules.{contains_range}
use Rattle.table_questions.proofs.contains_range.Goals as goal

pub returns-in_err-check_pivots : goal.returns-in_err-check_pivots
returns-in_err-check_pivots c = search (rules, contains_range, c.in_err-check_pivots.was)

pub returns : goal.returns
returns c = search (rules, contains_range, c.in_ok-check_pivots.was)
