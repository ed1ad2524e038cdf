use borrow.Author.Rules.{rules}
use Rattle.cuts.proofs.Rules.{cut}
use Rattle.cuts.proofs.split.cut.Goals as goal

pub returns-in_default-clause-answered : goal.returns-in_default-clause-answered
returns-in_default-clause-answered c = search (rules, cut)

pub returns-in_default-clause-pivots : goal.returns-in_default-clause-pivots
returns-in_default-clause-pivots c = search (rules, cut)

pub returns-in_default-clause-edges : goal.returns-in_default-clause-edges
returns-in_default-clause-edges c = search (rules, cut)

pub returns-clause-answered : goal.returns-clause-answered
returns-clause-answered c = search (rules, cut)
