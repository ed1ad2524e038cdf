use borrow.Author.Rules.{rules}
use Rattle.index_translation.proofs.Rules.{translate_index}
use Rattle.index_translation.proofs.translate.translate_index.Goals as goal

pub returns-in_err-check_given-clause-answered : goal.returns-in_err-check_given-clause-answered
returns-in_err-check_given-clause-answered c = search (rules, translate_index, c.in_err-check_given.was)

pub returns-in_err-check_given-clause-bucket : goal.returns-in_err-check_given-clause-bucket
returns-in_err-check_given-clause-bucket c = search (rules, translate_index, c.in_err-check_given.was)

pub returns-in_err-check_given-clause-index : goal.returns-in_err-check_given-clause-index
returns-in_err-check_given-clause-index c = search (rules, translate_index, c.in_err-check_given.was)

pub returns-then-dest_index-index-clause-answered : goal.returns-then-dest_index-index-clause-answered
returns-then-dest_index-index-clause-answered c = search (rules, translate_index, c.in_ok-check_given.was)

pub returns-in_err-written-clause-answered : goal.returns-in_err-written-clause-answered
returns-in_err-written-clause-answered c = search (rules, translate_index, c.in_ok-check_given.was, c.in_err-written.was)

pub write_kept-requires : goal.write_kept-requires
write_kept-requires c = search (rules, translate_index, c.in_ok-check_given.was, c.in_ok-written.was)
