use borrow.Author.Rules.{rules}
use Rattle.keys.proofs.Rules.{compare_padded}
use Rattle.keys.proofs.order.compare_padded.Goals as goal

pub returns : goal.returns
returns c = search (rules, compare_padded)
