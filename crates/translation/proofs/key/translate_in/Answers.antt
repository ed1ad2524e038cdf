use borrow.Author.Rules.{rules}
use Rattle.translation.proofs.Rules.{translate_in}
use Rattle.translation.proofs.key.translate_in.Goals as goal

pub overflow_add-c : goal.overflow_add-c
overflow_add-c c = search (rules, translate_in)
