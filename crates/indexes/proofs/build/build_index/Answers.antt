use borrow.Author.Rules.{rules}
use Rattle.indexes.proofs.Rules.{build_index}
use Rattle.indexes.proofs.build.build_index.Goals as goal

pub returns-in_err-count-clause-answered : goal.returns-in_err-count-clause-answered
returns-in_err-count-clause-answered c = search (rules, build_index, c.in_err-count.was)

pub returns-in_err-count-clause-written : goal.returns-in_err-count-clause-written
returns-in_err-count-clause-written c = search (rules, build_index, c.in_err-count.was)

pub entries_outside-requires : goal.entries_outside-requires
entries_outside-requires c = search (rules, build_index, c.in_ok-count.was)

pub write_index-requires : goal.write_index-requires
write_index-requires c = (search (rules, build_index, c.in_ok-count.was), search (rules, build_index, c.in_ok-count.was))
