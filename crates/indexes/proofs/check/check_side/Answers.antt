use borrow.Author.Rules.{rules}
use Rattle.indexes.proofs.Rules.{check_side}
use Rattle.indexes.proofs.check.check_side.Goals as goal

pub returns-in_err-check_given : goal.returns-in_err-check_given
returns-in_err-check_given c = search (rules, check_side, c.in_err-check_given.was)

pub place_from-requires : goal.place_from-requires
place_from-requires c = search (rules, check_side, c.in_ok-check_given.was)
