use borrow.Author.Rules.{rules}
use Rattle.meetings.proofs.Rules.{check_tables}
use Rattle.meetings.proofs.check_tables.Goals as goal

pub returns : goal.returns
returns c = search (rules, check_tables)
