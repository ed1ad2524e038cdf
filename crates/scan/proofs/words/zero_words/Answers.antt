use Prim.Native.Nat.{◌+◌}
use borrow.Author.Rules.{rules}
use Rattle.scan.proofs.Zeros.{word_cleared, last_cleared}
use Rattle.scan.proofs.words.zero_words.Goals as goal
use Rattle.scan.proofs.words.zero_words.Goals.{else-loop-i-test, then-loop-i-test+else-word_at-ne0+else-end-i-gt8}

ruleset own = (rules, last_cleared)

pub returns : goal.returns
returns c =
    elim c.loop-i-test.branch [
      | else-loop-i-test w ↦ search own
      | then-loop-i-test+else-word_at-ne0+else-end-i-gt8 w ↦
          let on = word_cleared _ _ _ _ c.loop-i.invariant w.word_at.ensures w.if-word_at-ne0.false w.loop-i-test.true in
          last_cleared _ _ (c.loop-i.i + 8) _ on (search rules) (search rules) c.word_at-2.ensures
    ]
