use borrow.Author.Rules.{rules}
use Rattle.index_cuts.proofs.Rules.{cut}
use Rattle.index_cuts.proofs.cut.cut.Goals as goal

pub returns-in-Err-clause-answered : goal.returns-in-Err-clause-answered
returns-in-Err-clause-answered c = search (rules, cut)

pub returns-in-Err-clause-bucket : goal.returns-in-Err-clause-bucket
returns-in-Err-clause-bucket c = search (rules, cut)

pub returns-in-Err-clause-index : goal.returns-in-Err-clause-index
returns-in-Err-clause-index c = search (rules, cut)
