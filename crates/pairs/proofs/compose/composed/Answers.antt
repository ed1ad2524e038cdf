use borrow.Author.Rules.{rules}
use Rattle.pairs.proofs.Rules.{composed}
use Rattle.pairs.proofs.compose.composed.Goals as goal

pub returns-in_err-n-clause-answered : goal.returns-in_err-n-clause-answered
returns-in_err-n-clause-answered c = search (rules, composed, c.in_err-n.was)

pub returns-then-ap-bp-clause-answered : goal.returns-then-ap-bp-clause-answered
returns-then-ap-bp-clause-answered c = search (rules, composed, c.in_ok-n.was)

pub returns-then-ap-bp-clause-paired : goal.returns-then-ap-bp-clause-paired
returns-then-ap-bp-clause-paired c = search (rules, composed, c.in_ok-n.was)

pub returns-in_err-n-2-clause-answered : goal.returns-in_err-n-2-clause-answered
returns-in_err-n-2-clause-answered c = search (rules, composed, c.in_err-n-2.was)

pub returns-clause-answered : goal.returns-clause-answered
returns-clause-answered c = search (rules, composed, c.in_ok-n-2.was)

pub returns-clause-paired : goal.returns-clause-paired
returns-clause-paired c = search (rules, composed, c.in_ok-n-2.was)
