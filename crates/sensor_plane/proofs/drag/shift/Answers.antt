use Rattle.std.proofs.Common.{rules}
use Rattle.std.proofs.lemmas.Int.{to_z-of_z}
use mir.Syntax.{w64}
use mir.Val.{SFits}
use Rattle.sensor_plane.proofs.drag.shift.Goals as goal

pub returns : goal.returns
returns c =
    let ox : SFits w64 c.args.fields.now.offset.x = search rules in
    let oy : SFits w64 c.args.fields.now.offset.y = search rules in
    let oz : SFits w64 c.args.fields.now.offset.z = search rules in
    let sx : SFits w64 c.args.start.x = search rules in
    let sy : SFits w64 c.args.start.y = search rules in
    let sz : SFits w64 c.args.start.z = search rules in
    let ax : SFits w64 c.args.at.x = search rules in
    let ay : SFits w64 c.args.at.y = search rules in
    let az : SFits w64 c.args.at.z = search rules in
    let rx : SFits w64 c.shifted.result = search rules in
    let ex = simp to_z-of_z at c.shifted.ensures in
    let ry : SFits w64 c.shifted-2.result = search rules in
    let ey = simp to_z-of_z at c.shifted-2.ensures in
    let rz : SFits w64 c.shifted-3.result = search rules in
    let ez = simp to_z-of_z at c.shifted-3.ensures in
    simp to_z-of_z (cc (ex, ey, ez))
