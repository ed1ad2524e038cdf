use mathlib.Core.Path.{◌≡◌}
use Prim.Native.Nat.{◌≤◌}
use lib.ListN.{length, take}
use Rattle.model.specs.buckets.Index.{encode_index}
use Rattle.model.specs.calls.Refusals.{over}
use Rattle.index_writes.proofs.Places.{places_beside}
use Rattle.index_writes.proofs.put_places.Given as goal

abbrev pub invariant-loop-i : goal.invariant-loop-i
invariant-loop-i l = (l.i ≤ l.count) × (length l.dest ≡ length l.initial.dest) × (l.dest ≡ over (encode_index (take l.i (places_beside l.left l.n l.index))) l.initial.dest)
