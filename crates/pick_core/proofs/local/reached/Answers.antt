use Rattle.std.proofs.Common.{◌∙◌, ◌+ℤ◌, ap}
use Rattle.std.proofs.lemmas.Int.{to_z-of_z}
use mir.Syntax.{w64, w128}
use mir.Val.{SFits}
use Rattle.pick_core.specs.Local.{reached}
use Rattle.pick_core.specs.Motion.{clamped}
use Rattle.pick_core.proofs.Moves.{wide, way_fits}
use Rattle.pick_core.proofs.local.reached.Goals as goal

pub returns : goal.returns
unfolding reached
returns c =
    let o = c.ranges.origin in
    let d = c.ranges.dir in
    let wo = wide c.args.origin o in
    let w : SFits w128 c.way.result = record { sfits = c.way.type_inv } in
    let r : SFits w64 c.clamped.result = record { sfits = c.clamped.type_inv } in
    let sum = way_fits c.args.origin c.way.result o c.way.ensures.fits in
    let value = simp to_z-of_z at c.way.ensures.value in
    let made = simp to_z-of_z at c.clamped.ensures in
    simp to_z-of_z (made ∙ ap (λ z. clamped (c.args.origin +ℤ z)) value)
