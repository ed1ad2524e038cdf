use borrow.Author.Rules.{rules}
use Rattle.parent_child.proofs.Rules.{parent_keys_in_child_range}
use Rattle.parent_child.proofs.parent_keys_in_child_range.Goals as goal

pub returns-in_err-check_tables : goal.returns-in_err-check_tables
returns-in_err-check_tables c = search (rules, parent_keys_in_child_range, c.in_err-check_tables.was)

pub returns : goal.returns
returns c = search (rules, parent_keys_in_child_range, c.in_ok-check_tables.was)
