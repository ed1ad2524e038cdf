use Prim.Native.Nat.{◌-◌}
use Rattle.pivot_places.proofs.Placing.{Between}
use Rattle.pivot_places.proofs.place.Given as goal

abbrev pub invariant-loop-low : goal.invariant-loop-low
invariant-loop-low l = Between l.pivots l.k l.strict l.low l.high

abbrev pub decreases-loop-low : goal.decreases-loop-low
decreases-loop-low l = l.high - l.low
