use Rattle.std.proofs.Common.{subst, sym}
use Rattle.std.proofs.lemmas.Int.{to_z-of_z}
use mir.Syntax.{w64}
use mir.Val.{SFits}
use Rattle.sensor_plane.proofs.Shifts.{wide, difference_fits, sum_fits, shifted_fits}
use Rattle.sensor_plane.proofs.drag.shifted.Goals as goal

pub returns : goal.returns
returns c =
    let o = c.ranges.offset in
    let s = c.ranges.start in
    let a = c.ranges.at in
    let wo = wide c.args.offset o in
    let ws = wide c.args.start s in
    let wa = wide c.args.at a in
    let d = difference_fits c.args.at c.args.start a s in
    let sum = sum_fits c.args.at c.args.start c.args.offset a s o in
    let e = simp to_z-of_z at c.clamp.ensures.value in
    let r : SFits w64 c.clamp.result = subst (λ z. SFits w64 z) (sym e) (shifted_fits c.args.offset c.args.start c.args.at) in
    let wr = wide c.clamp.result r in
    simp to_z-of_z e
