use Rattle.std.proofs.Common.{◌∙◌, ◌+ℤ◌, ap}
use Rattle.std.proofs.lemmas.Int.{to_z-of_z}
use mir.Syntax.{w64, w128}
use mir.Val.{SFits}
use Rattle.pick_core.specs.Motion.{clamped}
use Rattle.pick_core.proofs.Moves.{wide, difference_fits, product_fits, way_fits}
use Rattle.pick_core.specs.Track.{met_on}
use Rattle.pick_core.proofs.Sizes.{product_small}
use Rattle.pick_core.proofs.track.met_on.Goals as goal

pub overflow_mul-way : goal.overflow_mul-way
overflow_mul-way c =
    let d = c.ranges.dir in
    let h = c.ranges.height in
    let f = c.ranges.from in
    let wd = wide c.args.dir d in
    let wh = wide c.args.height h in
    let wf = wide c.args.from f in
    let diff = difference_fits c.args.height c.args.from h f in
    simp to_z-of_z (product_fits c.args.dir c.args.height c.args.from d h f)

pub quotient-requires : goal.quotient-requires
quotient-requires c =
    let d = c.ranges.dir in
    let h = c.ranges.height in
    let f = c.ranges.from in
    let wd = wide c.args.dir d in
    let wh = wide c.args.height h in
    let wf = wide c.args.from f in
    let diff = difference_fits c.args.height c.args.from h f in
    let p = product_fits c.args.dir c.args.height c.args.from d h f in
    simp to_z-of_z (product_small c.args.dir c.args.height c.args.from d h f)

pub returns : goal.returns
unfolding met_on
returns c =
    let d = c.ranges.dir in
    let h = c.ranges.height in
    let f = c.ranges.from in
    let a = c.ranges.along in
    let o = c.ranges.origin in
    let wd = wide c.args.dir d in
    let wh = wide c.args.height h in
    let wf = wide c.args.from f in
    let wo = wide c.args.origin o in
    let diff = difference_fits c.args.height c.args.from h f in
    let p = product_fits c.args.dir c.args.height c.args.from d h f in
    let q : SFits w128 c.quotient.result = record { sfits = c.quotient.type_inv } in
    let r : SFits w64 c.clamped.result = record { sfits = c.clamped.type_inv } in
    let sum = way_fits c.args.origin c.quotient.result o c.quotient.ensures.fits in
    let value = simp to_z-of_z at c.quotient.ensures.value in
    let made = simp to_z-of_z at c.clamped.ensures in
    simp to_z-of_z (made ∙ ap (λ z. clamped (c.args.origin +ℤ z)) value)
