use Rattle.std.proofs.Common.{◌≡◌, ◌+◌, ◌-◌, ◌/◌, sym, subst, arith}
use Rattle.std.proofs.lemmas.Int.{ints, to_z-of_z}
use Rattle.react_core.proofs.KeyLemmas.{IsPassedAt, IsKeyAt-passed, passed-up, passed-down, reached-passed}
use Rattle.react_core.proofs.keys.reached.Goals as goal

pub loop-low-preserved-then-keys-middle : goal.loop-low-preserved-then-keys-middle
loop-low-preserved-then-keys-middle c =
    let f = c.ranges.fraction in
    let invariant = simp to_z-of_z at c.loop-low.invariant in
    simp to_z-of_z (passed-up c.args.keys.now c.args.fraction c.loop-low.low c.loop-low.high (c.loop-low.low + (c.loop-low.high - c.loop-low.low) / 2) c.requires invariant (omega arith) (grind (arith, ints, to_z-of_z)))

pub loop-low-preserved : goal.loop-low-preserved
loop-low-preserved c =
    let f = c.ranges.fraction in
    let invariant = simp to_z-of_z at c.loop-low.invariant in
    simp to_z-of_z (passed-down c.args.keys.now c.args.fraction c.loop-low.low c.loop-low.high (c.loop-low.low + (c.loop-low.high - c.loop-low.low) / 2) c.requires invariant (omega arith) (omega arith) (grind (arith, ints, to_z-of_z)))

pub returns-clause-count : goal.returns-clause-count
returns-clause-count c =
    let f = c.ranges.fraction in
    let invariant = simp to_z-of_z at c.loop-low.invariant in
    sym (reached-passed c.args.keys.now c.args.fraction c.loop-low.low c.loop-low.high invariant (omega arith))

pub returns-clause-step : goal.returns-clause-step
returns-clause-step c some =
    let f = c.ranges.fraction in
    let invariant = simp to_z-of_z at c.loop-low.invariant in
    let order = invariant.in_order in
    let e : c.loop-low.high ≡ c.loop-low.low = omega arith in
    IsKeyAt-passed c.args.keys.now c.args.fraction c.loop-low.low some (subst (λ k. IsPassedAt c.args.keys.now c.args.fraction c.loop-low.low k) e invariant)
