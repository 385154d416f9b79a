use Rattle.std.proofs.Common.{arith, ◌∙◌, ap, ◌+ℤ◌}
use Rattle.std.proofs.lemmas.Int.{ints, to_z-of_z}
use mir.Syntax.{w64, w128}
use mir.Val.{SFits}
use Rattle.pick_core.specs.Motion.{clamped}
use Rattle.pick_core.proofs.Moves.{wide, sum_fits}
use Rattle.pick_core.proofs.motion.along.Goals as goal

pub overflow_add-translation-2 : goal.overflow_add-translation-2
overflow_add-translation-2 c =
    let s = c.ranges.scale in
    let a = c.ranges.at in
    let m = c.ranges.center in
    let t = c.ranges.translation in
    let wm = wide c.args.center m in
    let wt = wide c.args.translation t in
    let q : SFits w128 c.scaled.result = record { sfits = c.scaled.type_inv } in
    let tc : SFits w128 (c.args.translation +ℤ c.args.center) = omega (arith, ints) in
    simp to_z-of_z (sum_fits c.args.translation c.args.center c.scaled.result t m c.scaled.ensures.fits)

pub returns : goal.returns
returns c =
    let s = c.ranges.scale in
    let a = c.ranges.at in
    let m = c.ranges.center in
    let t = c.ranges.translation in
    let wm = wide c.args.center m in
    let wt = wide c.args.translation t in
    let q : SFits w128 c.scaled.result = record { sfits = c.scaled.type_inv } in
    let r : SFits w64 c.clamped.result = record { sfits = c.clamped.type_inv } in
    let tc : SFits w128 (c.args.translation +ℤ c.args.center) = omega (arith, ints) in
    let sum = sum_fits c.args.translation c.args.center c.scaled.result t m c.scaled.ensures.fits in
    let value = simp to_z-of_z at c.scaled.ensures.value in
    let made = simp to_z-of_z at c.clamped.ensures in
    simp to_z-of_z (made ∙ ap (λ z. clamped (c.args.translation +ℤ c.args.center +ℤ z)) value)
