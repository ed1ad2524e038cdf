use borrow.Author.Rules.{rules}
use Rattle.insertion.proofs.Rules.{insert_pivot}
use Rattle.insertion.proofs.insert_pivot.Goals as goal

pub returns-in_err-c-clause-answered : goal.returns-in_err-c-clause-answered
returns-in_err-c-clause-answered c = search (rules, insert_pivot, c.in_err-c.was)

pub returns-in_err-c-clause-pivots : goal.returns-in_err-c-clause-pivots
returns-in_err-c-clause-pivots c = search (rules, insert_pivot, c.in_err-c.was)

pub returns-in_err-c-clause-edges : goal.returns-in_err-c-clause-edges
returns-in_err-c-clause-edges c = search (rules, insert_pivot, c.in_err-c.was)

pub insert_at-requires : goal.insert_at-requires
insert_at-requires c = search (rules, insert_pivot, c.in_ok-c.was)

pub returns-clause-answered : goal.returns-clause-answered
returns-clause-answered c = search (rules, insert_pivot, c.in_ok-c.was)
