use Rattle.std.proofs.lemmas.Int.{to_z-of_z}
use mir.Syntax.{w64}
use mir.Val.{SFits}
use Rattle.pick_core.proofs.Moves.{wide, short_fits}
use Rattle.pick_core.proofs.motion.millionth.Goals as goal

pub returns-then-is_short : goal.returns-then-is_short
returns-then-is_short c =
    let n = c.ranges.number in
    let short = simp to_z-of_z at c.is_short.ensures in
    let f : SFits w64 c.args.number = short_fits c.args.number (short c.if-is_short.true) in
    let r : SFits w64 c.div_euclid.result = record { sfits = c.div_euclid.type_inv } in
    let wr = wide c.div_euclid.result r in
    let value = simp to_z-of_z at c.div_euclid.ensures in
    simp to_z-of_z value
