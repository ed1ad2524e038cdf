use borrow.Author.Rules.{rules}
use Rattle.parent_child.proofs.Rules.{ask_slot}
use Rattle.parent_child.proofs.slot.ask_slot.Goals as goal

pub ask_under-requires : goal.ask_under-requires
ask_under-requires c = search (rules, ask_slot)

pub returns-in-Prefix : goal.returns-in-Prefix
returns-in-Prefix c = search (rules, ask_slot)
