use borrow.Author.Rules.{rules}
use Rattle.routing.proofs.Rules.{new_pivot_slot}
use Rattle.routing.proofs.new_pivot_slot.Goals as goal

pub returns-in_err-n : goal.returns-in_err-n
returns-in_err-n c = search (rules, new_pivot_slot, c.in_err-n.was)

pub returns : goal.returns
returns c = search (rules, new_pivot_slot, c.in_ok-n.was)
