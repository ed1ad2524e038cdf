use Rattle.copies.proofs.Copying.{Copied}
use Rattle.copies.proofs.blocks.copy_blocks.Given as goal

abbrev pub invariant-loop-i : goal.invariant-loop-i
invariant-loop-i g l = Copied l.src l.n l.initial.dst l.dst l.i
