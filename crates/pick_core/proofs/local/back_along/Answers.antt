use Rattle.std.proofs.Common.{◌∙◌, ◌+ℤ◌, ap}
use Rattle.std.proofs.lemmas.Int.{to_z-of_z}
use mir.Syntax.{w64, w128}
use mir.Val.{SFits}
use Rattle.pick_core.specs.Local.{back_along, quotient}
use Rattle.pick_core.specs.Motion.{clamped}
use Rattle.pick_core.proofs.Moves.{wide, way_fits}
use Rattle.pick_core.proofs.local.back_along.Goals as goal

pub returns : goal.returns
unfolding back_along
returns c =
    let t = c.ranges.translation in
    let s = c.ranges.scale in
    let e = c.ranges.center in
    let a = c.ranges.at in
    let we = wide c.args.center e in
    let w : SFits w128 c.away-away.result = record { sfits = c.away-away.type_inv } in
    let q : SFits w128 c.quotient.result = record { sfits = c.quotient.type_inv } in
    let r : SFits w64 c.clamped.result = record { sfits = c.clamped.type_inv } in
    let sum = way_fits c.args.center c.quotient.result e c.quotient.ensures.fits in
    let away = simp to_z-of_z at c.away-away.ensures.value in
    let value = simp to_z-of_z at c.quotient.ensures.value in
    let made = simp to_z-of_z at c.clamped.ensures in
    simp to_z-of_z (made ∙ ap (λ z. clamped (c.args.center +ℤ z)) (value ∙ ap (λ z. quotient z c.args.scale) away))
