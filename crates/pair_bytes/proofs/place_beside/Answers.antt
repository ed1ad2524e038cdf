use borrow.Author.Rules.{rules}
use Rattle.pair_bytes.proofs.Rules.{place_beside}
use Rattle.pair_bytes.proofs.place_beside.Goals as goal

pub returns-in_err-told-clause-answered : goal.returns-in_err-told-clause-answered
returns-in_err-told-clause-answered c = search (rules, place_beside, c.in_err-told.was)
