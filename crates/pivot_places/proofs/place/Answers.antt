use native.Mathlib.Omega.{arith}
use Rattle.pivot_places.proofs.Placing.{between_start, upper_half, lower_half, between_end}
use borrow.Author.Rules.{rules}
use Rattle.pivot_places.proofs.place.Goals as goal

ruleset own = (rules, between_start, between_end)

pub loop-low-preserved-then-passes : goal.loop-low-preserved-then-passes
loop-low-preserved-then-passes c =
    let between = c.loop-low in
    let go = upper_half _ _ _ between.low between.high between.invariant (search own) (omega (arith, c.loop-low-test.true)) in
    go _ _ c.record_at.ensures c.passes.ensures c.if-passes.true

pub loop-low-preserved : goal.loop-low-preserved
loop-low-preserved c =
    let between = c.loop-low in
    let go = lower_half _ _ _ between.low between.high between.invariant (search own) (omega (arith, c.loop-low-test.true)) in
    go _ _ c.record_at.ensures c.passes.ensures c.if-passes.false
