use borrow.Author.Rules.{rules}
use Rattle.pairs.proofs.Rules.{reverse}
use Rattle.pairs.proofs.States.{old_inside, new_inside}
use Rattle.pairs.proofs.PrefixSet.reverse.Goals as goal

-- either length is at most 64, whichever is asked for
pub cleared-requires : goal.cleared-requires
cleared-requires c = search (rules, old_inside, new_inside)

pub cleared-requires-2 : goal.cleared-requires-2
cleared-requires-2 c = search (rules, old_inside, new_inside)

pub returns-clause-paired : goal.returns-clause-paired
returns-clause-paired c = search (rules, reverse)
