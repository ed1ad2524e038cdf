use borrow.Author.Rules.{rules}
use Rattle.slot_edges.proofs.Rules.{slot_edge}
use Rattle.slot_edges.proofs.slot_edge.Goals as goal

pub returns-then-left-clause-written : goal.returns-then-left-clause-written
returns-then-left-clause-written c = search (rules, slot_edge)

pub returns-clause-written : goal.returns-clause-written
returns-clause-written c = search (rules, slot_edge)
