use borrow.Author.Rules.{rules}
use Rattle.scan.proofs.BigWords.{number_passed}
use Rattle.scan.proofs.order_words.Goals as goal

pub loop-i-preserved : goal.loop-i-preserved
loop-i-preserved c =
    number_passed _ _ _ _ c.loop-i.invariant c.min-i-end.ensures c.loop-i-test.true _ _ c.big_at-x.ensures c.big_at-y.ensures (search rules) (search rules) c.if-x-y.false
