use Rattle.std.proofs.Common.{rules, ◌∙◌, ap, ◌-ℤ◌, arith}
use Rattle.std.proofs.lemmas.Int.{ints, to_z-of_z}
use Rattle.std.specs.Int.{int_rem_euclid}
use mir.Syntax.{w64}
use mir.Val.{SFits}
use Rattle.sensor_core.proofs.CycleLemmas.{cycle_time-rest}
use Rattle.sensor_core.proofs.cycles.cycle_time.Goals as goal

pub returns : goal.returns
returns c =
    let s = c.ranges.start in
    let i = c.ranges.interval in
    let t = c.ranges.t in
    let e : SFits w64 c.since.result = search rules in
    let r : SFits w64 c.rem_euclid.result = search rules in
    let w : SFits w64 (c.args.t -ℤ c.rem_euclid.result) = omega (arith, ints) in
    let since = simp to_z-of_z at c.since.ensures.value in
    let rest = simp to_z-of_z at c.rem_euclid.ensures.value in
    simp to_z-of_z (cycle_time-rest c.args.start c.args.interval c.args.t c.rem_euclid.result c.requires.cycles.some (rest ∙ ap (λ z. int_rem_euclid z c.args.interval) since))
