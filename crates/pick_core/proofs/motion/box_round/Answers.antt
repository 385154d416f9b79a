use Rattle.std.proofs.Common.{rules, ◌≡◌, pos, ◌-ℤ◌, neg_ℤ}
use Rattle.std.proofs.lemmas.Int.{to_z-of_z}
use mir.Syntax.{w64}
use mir.Val.{SFits}
use Rattle.pick_core.specs.Motion.{half, box_of}
use Rattle.pick_core.proofs.Moves.{half_turned, half_fits}
use Rattle.pick_core.proofs.motion.box_round.Goals as goal

pub returns : goal.returns
unfolding box_of
returns c =
    let sx : SFits w64 c.args.size.x = search rules in
    let hx : SFits w64 c.div_euclid-x.result = record { sfits = c.div_euclid-x.type_inv } in
    let ex = simp to_z-of_z at c.div_euclid-x.ensures in
    let nx : SFits w64 (pos 0 -ℤ c.div_euclid-x.result) = half_fits c.args.size.x c.div_euclid-x.result sx ex in
    let mx : pos 0 -ℤ c.div_euclid-x.result ≡ neg_ℤ (half c.args.size.x) = half_turned c.args.size.x c.div_euclid-x.result ex in
    let sy : SFits w64 c.args.size.y = search rules in
    let hy : SFits w64 c.div_euclid-y.result = record { sfits = c.div_euclid-y.type_inv } in
    let ey = simp to_z-of_z at c.div_euclid-y.ensures in
    let ny : SFits w64 (pos 0 -ℤ c.div_euclid-y.result) = half_fits c.args.size.y c.div_euclid-y.result sy ey in
    let my : pos 0 -ℤ c.div_euclid-y.result ≡ neg_ℤ (half c.args.size.y) = half_turned c.args.size.y c.div_euclid-y.result ey in
    let sz : SFits w64 c.args.size.z = search rules in
    let hz : SFits w64 c.div_euclid-z.result = record { sfits = c.div_euclid-z.type_inv } in
    let ez = simp to_z-of_z at c.div_euclid-z.ensures in
    let nz : SFits w64 (pos 0 -ℤ c.div_euclid-z.result) = half_fits c.args.size.z c.div_euclid-z.result sz ez in
    let mz : pos 0 -ℤ c.div_euclid-z.result ≡ neg_ℤ (half c.args.size.z) = half_turned c.args.size.z c.div_euclid-z.result ez in
    simp to_z-of_z (cc (ex, ey, ez, mx, my, mz))
