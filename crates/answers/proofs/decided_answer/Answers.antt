use borrow.Author.Rules.{rules}
use Rattle.answers.proofs.Rules.{decided_answer}
use Rattle.answers.proofs.decided_answer.Goals as goal

pub returns-in_err-d : goal.returns-in_err-d
returns-in_err-d c = search (rules, decided_answer, c.in_err-d.was)

pub returns : goal.returns
returns c = search (rules, decided_answer, c.in_ok-d.was)
