use borrow.Author.Rules.{rules}
use Rattle.pairs.proofs.Rules.{apply}
use Rattle.pairs.proofs.PrefixSet.apply.Goals as goal

pub shared_ref_as_front-change_prefix_small : goal.shared_ref_as_front-change_prefix_small
shared_ref_as_front-change_prefix_small c = search (rules, apply)

pub shared_ref_as_front-change_prefix_small-2 : goal.shared_ref_as_front-change_prefix_small-2
shared_ref_as_front-change_prefix_small-2 c = search (rules, apply)

pub returns-clause-answered : goal.returns-clause-answered
returns-clause-answered c = search (rules, apply)

pub returns-clause-written : goal.returns-clause-written
returns-clause-written c = search (rules, apply)
