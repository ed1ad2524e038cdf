use borrow.Author.Rules.{rules}
use Rattle.indexes.proofs.Rules.{place_from}
use Rattle.indexes.proofs.place.place_from.Goals as goal

pub returns-then-not-is_below : goal.returns-then-not-is_below
returns-then-not-is_below c = search (rules, place_from)

pub loop-i-preserved : goal.loop-i-preserved
loop-i-preserved c = search (rules, place_from)
