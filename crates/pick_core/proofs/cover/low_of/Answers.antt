use Rattle.std.proofs.Common.{rules}
use Rattle.std.proofs.lemmas.Int.{to_z-of_z}
use mir.Syntax.{w64}
use mir.Val.{SFits}
use Rattle.pick_core.proofs.cover.low_of.Goals as goal

pub returns : goal.returns
returns c =
    let ax : SFits w64 c.args.a.x = search rules in
    let bx : SFits w64 c.args.b.x = search rules in
    let rx : SFits w64 c.min.result = search rules in
    let ex = simp to_z-of_z at c.min.ensures.value in
    let ay : SFits w64 c.args.a.y = search rules in
    let by : SFits w64 c.args.b.y = search rules in
    let ry : SFits w64 c.min-2.result = search rules in
    let ey = simp to_z-of_z at c.min-2.ensures.value in
    let az : SFits w64 c.args.a.z = search rules in
    let bz : SFits w64 c.args.b.z = search rules in
    let rz : SFits w64 c.min-3.result = search rules in
    let ez = simp to_z-of_z at c.min-3.ensures.value in
    simp to_z-of_z (cc (ex, ey, ez))
