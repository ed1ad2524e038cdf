use borrow.Author.Rules.{rules}
use Rattle.indexes.proofs.Rules.{write_index}
use Rattle.indexes.proofs.merge.write_index.Goals as goal

pub loop-i-init : goal.loop-i-init
loop-i-init c = search (rules, write_index)

pub place_from-below-requires : goal.place_from-below-requires
place_from-below-requires c = search (rules, write_index)

pub overflow_cast-below : goal.overflow_cast-below
overflow_cast-below c = search (rules, write_index)

pub slice_bounds-put_place-count : goal.slice_bounds-put_place-count
slice_bounds-put_place-count c = search (rules, write_index)

pub slice_bounds-put_place-start : goal.slice_bounds-put_place-start
slice_bounds-put_place-start c = search (rules, write_index)

pub loop-i-preserved : goal.loop-i-preserved
loop-i-preserved c = search (rules, write_index)

pub returns : goal.returns
returns c = search (rules, write_index)
