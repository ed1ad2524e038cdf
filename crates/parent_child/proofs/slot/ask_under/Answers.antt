use borrow.Author.Rules.{rules}
use Rattle.parent_child.proofs.Rules.{ask_under}
use Rattle.parent_child.proofs.slot.ask_under.Goals as goal

pub returns-in_err-translate_pivot_pair : goal.returns-in_err-translate_pivot_pair
returns-in_err-translate_pivot_pair c = search (rules, ask_under, c.in_err-translate_pivot_pair.was)

pub returns : goal.returns
returns c = search (rules, ask_under, c.in_ok-translate_pivot_pair.was)
