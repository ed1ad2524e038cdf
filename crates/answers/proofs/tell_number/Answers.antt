use borrow.Author.Rules.{rules}
use Rattle.answers.proofs.Rules.{tell_number}
use Rattle.answers.proofs.tell_number.Goals as goal

pub returns-in-Err : goal.returns-in-Err
returns-in-Err c = search (rules, tell_number)
