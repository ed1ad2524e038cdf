use mathlib.Core.Path.{◌≡◌}
use mathlib.Core.List.{◌++◌}
use lib.ListN.{take, drop}
use Rattle.model.specs.list.ShelfList.{hex}
use Rattle.digits.proofs.hex.hex_clipped.Given as goal

abbrev pub invariant-loop-i : goal.invariant-loop-i
invariant-loop-i l = l.dest ≡ take l.i (hex l.k) ++ drop l.i l.initial.dest
