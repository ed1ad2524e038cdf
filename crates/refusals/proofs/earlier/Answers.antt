use borrow.Author.Rules.{rules}
use Rattle.refusals.proofs.Rules.{earlier}
use Rattle.refusals.proofs.earlier.Goals as goal

pub returns-then-from : goal.returns-then-from
returns-then-from c = search (rules, earlier)

pub returns : goal.returns
returns c = search (rules, earlier)
