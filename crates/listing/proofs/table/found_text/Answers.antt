use borrow.Author.Rules.{rules}
use Rattle.listing.proofs.Rules.{found_text}
use Rattle.listing.proofs.table.found_text.Goals as goal

pub returns-in-Ok-clause-written : goal.returns-in-Ok-clause-written
returns-in-Ok-clause-written c = search (rules, found_text)

pub returns-in-Err-clause-length : goal.returns-in-Err-clause-length
returns-in-Err-clause-length c = search (rules, found_text)

pub returns-in-Err-clause-written : goal.returns-in-Err-clause-written
returns-in-Err-clause-written c = search (rules, found_text)
