use Prim.Native.Nat.{◌*◌}
use Rattle.scan.proofs.BigWords.{Agreed}
use Rattle.scan.proofs.order_words.Given as goal

abbrev pub invariant-loop-i : goal.invariant-loop-i
invariant-loop-i l = Agreed l.a l.b (8 * l.i)
