use borrow.Author.Rules.{rules}
use Rattle.parent_child.proofs.Rules.{check_tables}
use Rattle.parent_child.proofs.check_tables.Goals as goal

pub returns : goal.returns
returns c = search (rules, check_tables)
