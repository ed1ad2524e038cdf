use mathlib.Core.Path.{◌≡◌}
use Prim.Native.Nat.{◌*◌, ◌≤◌}
use lib.ListN.{length}
use Rattle.model.specs.inner.Written.{into}
use Rattle.list_lines.specs.Lines.{most_line, lines_to}
use Rattle.list_lines.proofs.slot_lines.Given as goal

abbrev pub invariant-loop-i : goal.invariant-loop-i
invariant-loop-i l = (l.n ≤ l.i * most_line) × (l.n ≡ length (lines_to l.pivots l.edges l.i)) × (length l.dest ≡ length l.initial.dest) × (l.dest ≡ into (lines_to l.pivots l.edges l.i) l.initial.dest)
