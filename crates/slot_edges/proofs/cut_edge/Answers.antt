use borrow.Author.Rules.{rules}
use Rattle.slot_edges.proofs.Rules.{cut_edge}
use Rattle.slot_edges.proofs.cut_edge.Goals as goal

pub returns-in_default-clause-answered : goal.returns-in_default-clause-answered
returns-in_default-clause-answered c = search (rules, cut_edge)

pub returns-in_default-clause-written : goal.returns-in_default-clause-written
returns-in_default-clause-written c = search (rules, cut_edge)

pub overflow_cast-n : goal.overflow_cast-n
overflow_cast-n c = search (rules, cut_edge)

pub slice_bounds-room-end : goal.slice_bounds-room-end
slice_bounds-room-end c = search (rules, cut_edge)

pub slice_bounds-put_record-end : goal.slice_bounds-put_record-end
slice_bounds-put_record-end c = search (rules, cut_edge)

pub returns-in-Ok-clause-answered : goal.returns-in-Ok-clause-answered
returns-in-Ok-clause-answered c = search (rules, cut_edge)

pub returns-in-Ok-clause-written : goal.returns-in-Ok-clause-written
returns-in-Ok-clause-written c = search (rules, cut_edge)
