use borrow.Author.Rules.{rules}
use Rattle.bucket_fits.proofs.Rules.{translate_bucket_will_fit}
use Rattle.bucket_fits.proofs.translate_bucket_will_fit.Goals as goal

pub returns-in_err-check_bucket : goal.returns-in_err-check_bucket
returns-in_err-check_bucket c = search (rules, translate_bucket_will_fit, c.in_err-check_bucket.was)
