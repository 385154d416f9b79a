use Rattle.std.proofs.Common.{rules}
use Rattle.std.proofs.lemmas.Int.{to_z-of_z}
use mir.Syntax.{w64}
use mir.Val.{SFits}
use Rattle.sensor_plane.proofs.drag.within.Goals as goal

pub returns : goal.returns
returns c =
    let lx : SFits w64 c.args.fields.now.min_position.x = search rules in
    let ly : SFits w64 c.args.fields.now.min_position.y = search rules in
    let hx : SFits w64 c.args.fields.now.max_position.x = search rules in
    let hy : SFits w64 c.args.fields.now.max_position.y = search rules in
    let ax : SFits w64 c.args.at.x = search rules in
    let ay : SFits w64 c.args.at.y = search rules in
    let az : SFits w64 c.args.at.z = search rules in
    let rx : SFits w64 c.clamped.result = search rules in
    let ex = simp to_z-of_z at c.clamped.ensures in
    let ry : SFits w64 c.clamped-2.result = search rules in
    let ey = simp to_z-of_z at c.clamped-2.ensures in
    simp to_z-of_z (cc (ex, ey))
