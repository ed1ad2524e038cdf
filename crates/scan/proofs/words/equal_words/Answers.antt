use borrow.Author.Rules.{rules}
use Rattle.scan.proofs.ByWords.{alike_number}
use Rattle.scan.proofs.words.equal_words.Goals as goal

pub loop-i-preserved : goal.loop-i-preserved
loop-i-preserved c =
    alike_number _ _ _ _ c.loop-i.invariant _ _ c.word_at.ensures c.word_at-in-loop-i.ensures c.if-word_at.false (search rules) (search rules) (search rules) (search rules) (search rules)
