use Rattle.model.specs.calls.TableCalls.{edges_read}
use Rattle.model.specs.records.Record.{records}
use lib.ListN.{drop}
use mathlib.Core.Path.{◌≡◌}
use Rattle.table_checks.proofs.edges_read.Given as goal

abbrev pub invariant-loop-i : goal.invariant-loop-i
invariant-loop-i l = edges_read (records l.edges) ≡ edges_read (drop l.i (records l.edges))
