use borrow.Author.Rules.{rules}
use Rattle.renaming.proofs.Rules.{write_changed}
use Rattle.renaming.proofs.change.write_changed.Goals as goal

pub returns : goal.returns
returns c = search (rules, write_changed)
