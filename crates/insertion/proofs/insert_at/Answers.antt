use mathlib.Core.Path.{refl}
use Rattle.insertion.proofs.Inserts.{edges_refused, edges_taken}
use borrow.Author.Rules.{rules}
use Rattle.insertion.proofs.insert_at.Goals as goal
use Rattle.insertion.proofs.Rules.{insert_at}

ruleset own = (rules, refl, edges_refused, edges_taken)

pub write_in-requires : goal.write_in-requires
write_in-requires c =
    let short = edges_taken _ _ _ _ c.in_ok-half_edges.ensures.answered _ refl in
    (search own, short, c.half_edges.ensures.written short)

pub returns-in_err-half_edges-clause-answered : goal.returns-in_err-half_edges-clause-answered
returns-in_err-half_edges-clause-answered c = search (rules, insert_at, c.in_err-half_edges.was)

pub returns-in_err-half_edges-clause-pivots : goal.returns-in_err-half_edges-clause-pivots
returns-in_err-half_edges-clause-pivots c = search (rules, insert_at, c.in_err-half_edges.was)

pub returns-in_err-half_edges-clause-edges : goal.returns-in_err-half_edges-clause-edges
returns-in_err-half_edges-clause-edges c = search (rules, insert_at, c.in_err-half_edges.was)
