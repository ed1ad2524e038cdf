use mathlib.Core.Path.{◌≡◌}
use lib.ListN.{length, take}
use Rattle.model.specs.records.Record.{encode_edges}
use Rattle.model.specs.calls.Refusals.{over}
use Rattle.model.specs.calls.RenamingCalls.{new_edges}
use Rattle.filled_edges.proofs.write_edges.Given as goal

abbrev pub invariant-loop-i : goal.invariant-loop-i
invariant-loop-i l = (length l.dest ≡ length l.initial.dest) × (l.dest ≡ over (encode_edges (take l.i (new_edges l.pivots l.edges))) l.initial.dest)
