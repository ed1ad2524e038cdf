use borrow.Author.Rules.{rules}
use Rattle.indexes.proofs.Rules.{is_other}
use Rattle.indexes.proofs.check.is_other.Goals as goal

pub write_index-requires : goal.write_index-requires
write_index-requires c = search (rules, is_other)
