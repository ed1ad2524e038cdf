use borrow.Author.Rules.{rules}
use Rattle.records.proofs.JoinedKeys.{head_made, head_none}
use Rattle.records.proofs.joined.put_head.Goals as goal

ruleset own = (rules, head_made, head_none)

pub returns-then-dest-lt-RECORD_SIZE : goal.returns-then-dest-lt-RECORD_SIZE
returns-then-dest-lt-RECORD_SIZE c = search own

pub returns : goal.returns
returns c = let e = c.fill.ensures.after (λ y h. search rules) in search own
