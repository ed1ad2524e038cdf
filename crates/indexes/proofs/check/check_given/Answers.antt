use borrow.Author.Rules.{rules}
use Rattle.indexes.proofs.Rules.{check_given}
use Rattle.indexes.proofs.check.check_given.Goals as goal

pub returns-in_err-check_rising : goal.returns-in_err-check_rising
returns-in_err-check_rising c = search (rules, check_given, c.in_err-check_rising.was)

pub is_outside-out-requires : goal.is_outside-out-requires
is_outside-out-requires c = search (rules, check_given, c.in_ok-check_rising.was)

pub is_other-other-requires : goal.is_other-other-requires
is_other-other-requires c = search (rules, check_given, c.in_ok-check_rising.was)
