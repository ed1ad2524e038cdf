use borrow.Author.Rules.{rules}
use Rattle.routing.proofs.Rules.{find_slot}
use Rattle.routing.proofs.find_slot.Goals as goal

pub returns-in_err-n : goal.returns-in_err-n
returns-in_err-n c = search (rules, find_slot, c.in_err-n.was)
