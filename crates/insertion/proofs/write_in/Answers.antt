use borrow.Author.Rules.{rules}
use Rattle.insertion.proofs.Rules.{write_in}
use Rattle.insertion.proofs.write_in.Goals as goal

pub overflow_cast-k : goal.overflow_cast-k
overflow_cast-k c = search (rules, write_in)

pub overflow_mul-at : goal.overflow_mul-at
overflow_mul-at c = search (rules, write_in)

pub overflow_add-next : goal.overflow_add-next
overflow_add-next c = search (rules, write_in)

pub slice_bounds-write_table-end : goal.slice_bounds-write_table-end
slice_bounds-write_table-end c = search (rules, write_in)

pub slice_bounds-write_table-count : goal.slice_bounds-write_table-count
slice_bounds-write_table-count c = search (rules, write_in)

pub slice_bounds-write_table-start : goal.slice_bounds-write_table-start
slice_bounds-write_table-start c = search (rules, write_in)

pub slice_bounds-write_table-end-4 : goal.slice_bounds-write_table-end-4
slice_bounds-write_table-end-4 c = search (rules, write_in)

pub slice_bounds-write_table-count-2 : goal.slice_bounds-write_table-count-2
slice_bounds-write_table-count-2 c = search (rules, write_in)

pub slice_bounds-write_table-start-2 : goal.slice_bounds-write_table-start-2
slice_bounds-write_table-start-2 c = search (rules, write_in)
