use borrow.Author.Rules.{rules}
use Rattle.pair_bytes.proofs.Rules.{place_pair}
use Rattle.pair_bytes.proofs.place_pair.Goals as goal

pub returns-in_err-pair-clause-answered : goal.returns-in_err-pair-clause-answered
returns-in_err-pair-clause-answered c = search (rules, place_pair, c.in_err-pair.was)
