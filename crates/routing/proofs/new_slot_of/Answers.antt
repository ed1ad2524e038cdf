use Rattle.routing.proofs.Inserting.{below_all, a_pivot, above_all, strictly_in}
use borrow.Author.Rules.{rules}
use Rattle.routing.proofs.new_slot_of.Goals as goal

ruleset own = (rules, below_all, a_pivot, above_all)

pub returns : goal.returns
returns c =
    let last = c.record_at.ensures in
    let below = c.passes-below.ensures in
    strictly_in _ _ _ (search own) (search own) (search own) _ _ last below (search own) (search own) (search own)
