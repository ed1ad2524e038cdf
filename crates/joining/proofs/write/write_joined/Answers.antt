use borrow.Author.Rules.{rules}
use Rattle.joining.proofs.Rules.{write_joined}
use Rattle.joining.proofs.write.write_joined.Goals as goal

pub slice_bounds-write_table-end-3 : goal.slice_bounds-write_table-end-3
slice_bounds-write_table-end-3 c = search (rules, write_joined)
