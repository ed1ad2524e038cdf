use borrow.Author.Rules.{rules}
use Rattle.indexes.proofs.Rules.{slot_entries_part}
use Rattle.indexes.proofs.slot.slot_entries_part.Goals as goal

pub returns-in_default : goal.returns-in_default
returns-in_default c = search (rules, slot_entries_part)
