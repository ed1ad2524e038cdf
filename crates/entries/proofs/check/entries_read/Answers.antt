use borrow.Author.Rules.{rules}
use Rattle.entries.proofs.Rules.{entries_read}
use Rattle.entries.proofs.check.entries_read.Goals as goal

pub returns-then-not-entry_reads : goal.returns-then-not-entry_reads
returns-then-not-entry_reads c = search (rules, entries_read)

pub loop-i-preserved : goal.loop-i-preserved
loop-i-preserved c = search (rules, entries_read)
