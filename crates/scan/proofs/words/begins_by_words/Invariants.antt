use Prim.Native.Nat.{◌*◌}
use Rattle.scan.proofs.Beginning.{Begun}
use Rattle.scan.proofs.words.begins_by_words.Given as goal

abbrev pub invariant-loop-i : goal.invariant-loop-i
invariant-loop-i l = Begun l.p l.k (8 * l.i)
