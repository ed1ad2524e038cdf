use borrow.Author.Rules.{rules}
use Rattle.answers.proofs.Rules.{tell_order}
use Rattle.answers.proofs.tell_order.Goals as goal

pub returns-in-Err-clause-number : goal.returns-in-Err-clause-number
returns-in-Err-clause-number c = search (rules, tell_order)
