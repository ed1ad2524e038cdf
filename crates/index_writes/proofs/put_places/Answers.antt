use borrow.Author.Rules.{rules}
use Rattle.index_writes.proofs.Rules.{put_places}
use Rattle.index_writes.proofs.put_places.Goals as goal

pub loop-i-init : goal.loop-i-init
loop-i-init c = search (rules, put_places)

pub overflow_cast-place : goal.overflow_cast-place
overflow_cast-place c = search (rules, put_places)

pub returns : goal.returns
returns c = search (rules, put_places)
