use Rattle.model.proofs.calls.Refusals.{exits}
use borrow.Author.Rules.{rules}
use Rattle.translation.proofs.Rules.{translate}
use Rattle.translation.proofs.pair.translate.Goals as goal

pub returns-in_err-c-clause-answered : goal.returns-in_err-c-clause-answered
returns-in_err-c-clause-answered c = search (rules, translate, c.in_err-c.was)

pub returns-in_err-c-clause-paired : goal.returns-in_err-c-clause-paired
returns-in_err-c-clause-paired c =
    let same = exits c.from_residual.result c.in_err-c.field-0.0 c.from_residual.ensures in
    search (rules, translate, c.in_err-c.was, same)
