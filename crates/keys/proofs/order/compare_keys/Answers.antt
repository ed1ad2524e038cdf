use borrow.Author.Rules.{rules}
use Rattle.keys.proofs.Rules.{compare_keys}
use Rattle.keys.proofs.order.compare_keys.Goals as goal

pub returns : goal.returns
returns c = search (rules, compare_keys)
