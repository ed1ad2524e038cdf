use Prim.Native.Nat.{◌+◌}
use borrow.Author.Rules.{rules}
use Rattle.copies.proofs.Copying.{Copied, copy_on, copy_last}
use Rattle.copies.proofs.blocks.copy_blocks.Goals as goal
use Rattle.copies.proofs.blocks.copy_blocks.Goals.{else-loop-i-test, then-loop-i-test+else-i-step-i-end}

ruleset own = (rules, copy_on, copy_last)

pub loop-i-preserved : goal.loop-i-preserved
loop-i-preserved g c = search own

pub returns : goal.returns
returns g c =
    elim c.loop-i-test.branch [
      | else-loop-i-test w ↦ search own
      | then-loop-i-test+else-i-step-i-end w ↦
          let k : Copied c.args.src.now c.args.n c.args.dst.now c.loop-i-test.dst (c.loop-i.i + g.row.N) = rw w.dst-is (search own) in
          search own
    ]
