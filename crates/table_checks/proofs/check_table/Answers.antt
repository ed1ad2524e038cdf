use borrow.Author.Rules.{rules}
use Rattle.table_checks.proofs.Rules.{check_table}
use Rattle.table_checks.proofs.check_table.Goals as goal

pub returns-in_err-n : goal.returns-in_err-n
returns-in_err-n c = search (rules, check_table, c.in_err-n.was)
