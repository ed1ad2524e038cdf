use Rattle.model.specs.tables.Tables.{CutoffForRight}
use borrow.Author.Rules.{rules}
use Rattle.routing.proofs.route.Goals as goal

pub returns : goal.returns
unfolding CutoffForRight
returns c = search rules
