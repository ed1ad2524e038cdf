use borrow.Author.Rules.{rules}
use Rattle.renaming.proofs.Rules.{translate_pivots}
use Rattle.renaming.proofs.pivots.translate_pivots.Goals as goal

pub returns-in_err-check_changed-clause-answered : goal.returns-in_err-check_changed-clause-answered
returns-in_err-check_changed-clause-answered c = search (rules, translate_pivots, c.in_err-check_changed.was)

pub returns-in_err-check_changed-clause-written : goal.returns-in_err-check_changed-clause-written
returns-in_err-check_changed-clause-written c = search (rules, translate_pivots, c.in_err-check_changed.was)

pub put_pivots-requires : goal.put_pivots-requires
put_pivots-requires c = search (rules, translate_pivots, c.in_ok-check_changed.was)
