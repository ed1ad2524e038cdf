use borrow.Author.Rules.{rules}
use Rattle.table_questions.proofs.Rules.{wf_pivots}
use Rattle.table_questions.proofs.wf_pivots.Goals as goal

pub returns-in_err-check_pivots : goal.returns-in_err-check_pivots
returns-in_err-check_pivots c = search (rules, wf_pivots, c.in_err-check_pivots.was)
