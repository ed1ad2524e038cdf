use borrow.Author.Rules.{rules}
use Rattle.index_cuts.proofs.Rules.{cut_at}
use Rattle.index_cuts.proofs.cut.cut_at.Goals as goal

pub returns-in_err-n-clause-answered : goal.returns-in_err-n-clause-answered
returns-in_err-n-clause-answered c = search (rules, cut_at, c.in_err-n.was)

pub returns-in_err-n-clause-bucket : goal.returns-in_err-n-clause-bucket
returns-in_err-n-clause-bucket c = search (rules, cut_at, c.in_err-n.was)

pub returns-in_err-n-clause-index : goal.returns-in_err-n-clause-index
returns-in_err-n-clause-index c = search (rules, cut_at, c.in_err-n.was)

pub returns-then-left-clause-answered : goal.returns-then-left-clause-answered
returns-then-left-clause-answered c = search (rules, cut_at, c.in_ok-n.was)

pub returns-then-left-clause-bucket : goal.returns-then-left-clause-bucket
returns-then-left-clause-bucket c = search (rules, cut_at, c.in_ok-n.was)

pub returns-then-left-clause-index : goal.returns-then-left-clause-index
returns-then-left-clause-index c = search (rules, cut_at, c.in_ok-n.was)

pub returns-clause-answered : goal.returns-clause-answered
returns-clause-answered c = search (rules, cut_at, c.in_ok-n.was)

pub returns-clause-bucket : goal.returns-clause-bucket
returns-clause-bucket c = search (rules, cut_at, c.in_ok-n.was)

pub returns-clause-index : goal.returns-clause-index
returns-clause-index c = search (rules, cut_at, c.in_ok-n.was)
