use borrow.Author.Rules.{rules}
use Rattle.index_translation.proofs.Rules.{write_kept}
use Rattle.index_translation.proofs.kept.write_kept.Goals as goal

pub loop-i-init : goal.loop-i-init
loop-i-init c = search (rules, write_kept)

pub overflow_add-kept : goal.overflow_add-kept
overflow_add-kept c = search (rules, write_kept)

pub overflow_cast-kept : goal.overflow_cast-kept
overflow_cast-kept c = search (rules, write_kept)
