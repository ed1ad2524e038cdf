use borrow.Author.Rules.{rules}
use Rattle.index_translation.proofs.Rules.{kept_between}
use Rattle.index_translation.proofs.kept.kept_between.Goals as goal

pub overflow_add-kept : goal.overflow_add-kept
overflow_add-kept c = search (rules, kept_between)
