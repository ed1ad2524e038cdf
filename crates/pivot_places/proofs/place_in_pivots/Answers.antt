use borrow.Author.Rules.{rules}
use Rattle.pivot_places.proofs.Rules.{place_in_pivots}
use Rattle.pivot_places.proofs.place_in_pivots.Goals as goal

pub returns-in_err-check_pivots : goal.returns-in_err-check_pivots
returns-in_err-check_pivots c = search (rules, place_in_pivots, c.in_err-check_pivots.was)
