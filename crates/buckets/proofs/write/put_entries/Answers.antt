use borrow.Author.Rules.{rules}
use Rattle.buckets.proofs.Rules.{put_entries}
use Rattle.buckets.proofs.write.put_entries.Goals as goal

pub loop-i-preserved : goal.loop-i-preserved
loop-i-preserved c = search (rules, put_entries)
