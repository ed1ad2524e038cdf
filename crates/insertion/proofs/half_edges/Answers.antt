use borrow.Author.Rules.{rules}
use Rattle.insertion.proofs.Rules.{half_edges}
use Rattle.insertion.proofs.half_edges.Goals as goal

pub returns-in_err-slot_edge-clause-answered : goal.returns-in_err-slot_edge-clause-answered
returns-in_err-slot_edge-clause-answered c = search (rules, half_edges, c.in_err-slot_edge.was)

pub returns-in_err-slot_edge-clause-written : goal.returns-in_err-slot_edge-clause-written
returns-in_err-slot_edge-clause-written c = search (rules, half_edges, c.in_err-slot_edge.was)
