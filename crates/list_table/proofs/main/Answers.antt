use native.Mathlib.Nat.{le_trans}
use borrow.Author.Rules.{rules}
use Rattle.model.proofs.list.Length.{list_most}
use Rattle.list_table.proofs.main.Goals as goal

pub list_read-m-requires : goal.list_read-m-requires
list_read-m-requires c = le_trans (list_most _) (search rules)
