use borrow.Author.Rules.{rules}
use Rattle.entry_order.proofs.Rules.{check_both}
use Rattle.entry_order.proofs.check_both.Goals as goal

pub returns : goal.returns
returns c = search (rules, check_both)
