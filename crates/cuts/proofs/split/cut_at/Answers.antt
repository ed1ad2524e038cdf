use mathlib.Core.Path.{refl}
use Rattle.cuts.proofs.Writes.{edge_refused, edge_made}
use borrow.Author.Rules.{rules}
use Rattle.cuts.proofs.split.cut_at.Goals as goal
use Rattle.cuts.proofs.Rules.{cut_at}

ruleset own = (rules, refl, edge_refused)

pub write_at-requires : goal.write_at-requires
write_at-requires c =
    let edge = edge_made _ _ _ _ _ _ c.in-Ok.ensures.answered (search own) (search own) (search own) (search own) _ refl (search own) _ _ c.slot_edge-cut.ensures.written refl in
    (search own, edge.0, edge.1)

pub returns-in_default-clause-answered : goal.returns-in_default-clause-answered
returns-in_default-clause-answered c = search (rules, cut_at)

pub returns-in_default-clause-pivots : goal.returns-in_default-clause-pivots
returns-in_default-clause-pivots c = search (rules, cut_at)

pub returns-in_default-clause-edges : goal.returns-in_default-clause-edges
returns-in_default-clause-edges c = search (rules, cut_at)
