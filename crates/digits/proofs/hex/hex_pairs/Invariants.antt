use mathlib.Core.Path.{◌≡◌}
use mathlib.Core.List.{◌++◌}
use Prim.Native.Nat.{◌*◌}
use lib.ListN.{take, drop}
use Rattle.model.specs.list.ShelfList.{hex}
use Rattle.digits.proofs.hex.hex_pairs.Given as goal

abbrev pub invariant-loop-i : goal.invariant-loop-i
invariant-loop-i l = l.dest ≡ take (2 * l.i) (hex l.k) ++ drop (2 * l.i) l.initial.dest
