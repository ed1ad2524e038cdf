use borrow.Author.Rules.{rules}
use Rattle.indexes.proofs.Rules.{slot_entries}
use Rattle.indexes.proofs.slot.slot_entries.Goals as goal

pub returns-in_err-check_index : goal.returns-in_err-check_index
returns-in_err-check_index c = search (rules, slot_entries, c.in_err-check_index.was)
