use borrow.Author.Rules.{rules}
use Rattle.translation.proofs.Rules.{translate_key}
use Rattle.translation.proofs.key.translate_key.Goals as goal

pub returns-in_err-c-clause-answered : goal.returns-in_err-c-clause-answered
returns-in_err-c-clause-answered c = search (rules, translate_key, c.in_err-c.was)

pub returns-in_err-c-clause-written : goal.returns-in_err-c-clause-written
returns-in_err-c-clause-written c = search (rules, translate_key, c.in_err-c.was)

pub returns-clause-answered : goal.returns-clause-answered
returns-clause-answered c = search (rules, translate_key, c.in_ok-c.was)
