use Prim.Native.Nat.{◌+◌}
use mathlib.Core.Path.{◌≡◌}
use lib.ListN.{length, drop}
use Rattle.model.specs.keys.Key.{common_run}
use Rattle.scan.proofs.words.equal_bytes.Given as goal

abbrev pub invariant-loop-j : goal.invariant-loop-j
invariant-loop-j l = l.j + length (common_run (drop l.j l.a) (drop l.j l.b)) ≡ l.i + length (common_run (drop l.i l.a) (drop l.i l.b))
