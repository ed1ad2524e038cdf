use Prim.Native.Nat.{◌*◌}
use Rattle.scan.proofs.ByWords.{Alike}
use Rattle.scan.proofs.words.equal_words.Given as goal

abbrev pub invariant-loop-i : goal.invariant-loop-i
invariant-loop-i l = Alike l.a l.b l.n (8 * l.i)
