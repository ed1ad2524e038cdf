use mathlib.Core.Path.{◌≡◌}
use lib.ListN.{length, take}
use Rattle.model.specs.records.Record.{encode_all}
use Rattle.model.specs.calls.Refusals.{over}
use Rattle.changed_pivots.specs.Renamed.{changed_pivots}
use Rattle.renaming.proofs.change.write_changed.Given as goal

abbrev pub invariant-loop-i : goal.invariant-loop-i
invariant-loop-i l = (length l.dest ≡ length l.initial.dest) × (l.dest ≡ over (encode_all (take l.i (changed_pivots l.pivots l.prefix l.new_prefix))) l.initial.dest)
