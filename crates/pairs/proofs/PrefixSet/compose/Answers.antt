use borrow.Author.Rules.{rules}
use Rattle.pairs.proofs.Rules.{compose}
use Rattle.pairs.proofs.PrefixSet.compose.Goals as goal

pub returns-clause-answered : goal.returns-clause-answered
returns-clause-answered c = search (rules, compose)

pub returns-clause-paired : goal.returns-clause-paired
returns-clause-paired c = search (rules, compose)
