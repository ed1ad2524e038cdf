use borrow.Author.Rules.{rules}
use Rattle.listing.proofs.Rules.{list_table}
use Rattle.listing.proofs.table.list_table.Goals as goal

pub returns-then-dest-n-clause-written : goal.returns-then-dest-n-clause-written
returns-then-dest-n-clause-written c = search (rules, list_table)
