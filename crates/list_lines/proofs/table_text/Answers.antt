use Rattle.model.specs.list.ShelfList.{header}
use Rattle.list_lines.proofs.SlotLines.{text_length, text_written}
use borrow.Author.Rules.{rules}
use Rattle.list_lines.proofs.table_text.Goals as goal

ruleset own = (rules, text_length, text_written)

pub returns-clause-length : goal.returns-clause-length
unfolding header
returns-clause-length c = search own

pub returns-clause-written : goal.returns-clause-written
unfolding header
returns-clause-written c = search own
