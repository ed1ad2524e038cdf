use borrow.Author.Rules.{rules}
use Rattle.pivot_places.proofs.Rules.{place_in_table}
use Rattle.pivot_places.proofs.place_in_table.Goals as goal

pub returns-in_err-check_table : goal.returns-in_err-check_table
returns-in_err-check_table c = search (rules, place_in_table, c.in_err-check_table.was)
