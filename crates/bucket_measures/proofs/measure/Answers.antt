use borrow.Author.Rules.{rules}
use Rattle.bucket_measures.proofs.Rules.{measure}
use Rattle.bucket_measures.proofs.measure.Goals as goal

pub returns-in_err-kept : goal.returns-in_err-kept
returns-in_err-kept c = search (rules, measure, c.in_err-kept.was)

pub overflow_add-kept : goal.overflow_add-kept
overflow_add-kept c = search (rules, measure, c.in_ok-kept.was)

pub loop-i-preserved : goal.loop-i-preserved
loop-i-preserved c = search (rules, measure, c.in_ok-kept.was)

pub returns : goal.returns
returns c = search (rules, measure)
