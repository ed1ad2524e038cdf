use borrow.Author.Rules.{rules}
use Rattle.table_questions.proofs.Rules.{contains_all_keys}
use Rattle.table_questions.proofs.contains_all_keys.Goals as goal

pub returns-in_err-check_pivots : goal.returns-in_err-check_pivots
returns-in_err-check_pivots c = search (rules, contains_all_keys, c.in_err-check_pivots.was)
