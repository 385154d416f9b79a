use Rattle.std.proofs.lemmas.Int.{to_z-of_z}
use mir.Syntax.{w128}
use mir.Val.{SFits}
use Rattle.pick_core.proofs.Moves.{wide, count_is, direction_fits, way_small}
use Rattle.pick_core.proofs.local.way.Goals as goal

pub overflow_mul-n : goal.overflow_mul-n
overflow_mul-n c =
    let f = c.ranges.dir in
    let d = wide c.args.dir f in
    let n = count_is c.args.n c.ranges.n in
    simp (to_z-of_z, n) (direction_fits c.args.n c.args.dir c.ranges.n f)

pub returns-clause-value : goal.returns-clause-value
returns-clause-value c =
    let f = c.ranges.dir in
    let d = wide c.args.dir f in
    let n = count_is c.args.n c.ranges.n in
    let m = count_is c.args.m c.ranges.m in
    let p = direction_fits c.args.n c.args.dir c.ranges.n f in
    let w : SFits w128 c.div_euclid.result = record { sfits = c.div_euclid.type_inv } in
    let value = simp (to_z-of_z, n, m) at c.div_euclid.ensures in
    simp to_z-of_z value

pub returns-clause-fits : goal.returns-clause-fits
returns-clause-fits c =
    let f = c.ranges.dir in
    let d = wide c.args.dir f in
    let n = count_is c.args.n c.ranges.n in
    let m = count_is c.args.m c.ranges.m in
    let p = direction_fits c.args.n c.args.dir c.ranges.n f in
    let w : SFits w128 c.div_euclid.result = record { sfits = c.div_euclid.type_inv } in
    let value = simp (to_z-of_z, n, m) at c.div_euclid.ensures in
    simp to_z-of_z (way_small c.args.n c.args.m c.args.dir c.div_euclid.result c.ranges.n f value)
