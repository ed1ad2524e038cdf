use borrow.Author.Rules.{rules}
use Rattle.entry_order.proofs.Rules.{check_rising}
use Rattle.entry_order.proofs.check_rising.Goals as goal

pub returns-in_err-count : goal.returns-in_err-count
returns-in_err-count c = search (rules, check_rising, c.in_err-count.was)
