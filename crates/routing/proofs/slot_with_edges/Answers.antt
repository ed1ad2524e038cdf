use borrow.Author.Rules.{rules}
use Rattle.routing.proofs.Rules.{slot_with_edges}
use Rattle.routing.proofs.slot_with_edges.Goals as goal

pub returns-in_err-n : goal.returns-in_err-n
returns-in_err-n c = search (rules, slot_with_edges, c.in_err-n.was)
