use borrow.Author.Rules.{rules}
use Rattle.buckets.proofs.Rules.{translate_bucket}
use Rattle.buckets.proofs.translate.translate_bucket.Goals as goal

pub returns-in_err-check_bucket-clause-answered : goal.returns-in_err-check_bucket-clause-answered
returns-in_err-check_bucket-clause-answered c = search (rules, translate_bucket, c.in_err-check_bucket.was)

pub returns-in_err-check_bucket-clause-written : goal.returns-in_err-check_bucket-clause-written
returns-in_err-check_bucket-clause-written c = search (rules, translate_bucket, c.in_err-check_bucket.was)

pub returns-in_err-kept-clause-answered : goal.returns-in_err-kept-clause-answered
returns-in_err-kept-clause-answered c = search (rules, translate_bucket, c.in_ok-check_bucket.was, c.in_err-kept.was)

pub returns-in_err-kept-clause-written : goal.returns-in_err-kept-clause-written
returns-in_err-kept-clause-written c = search (rules, translate_bucket, c.in_ok-check_bucket.was, c.in_err-kept.was)
