use Rattle.std.proofs.Common.{rules, arith, ◌≡◌, ◌<◌, length, refl, Some}
use Rattle.std.specs.Prelude.{slice_get}
use Rattle.std.proofs.lemmas.Option.{slice_get_read}
use Rattle.scene_core.specs.Scene.{rows_at}
use Rattle.cascade_world.proofs.Fitting.{value_fails, value_more, values_counted, values_done, values_uncounted}
use Rattle.cascade_world.proofs.fits.values_fit.Goals as goal

pub returns-then-not-are_many : goal.returns-then-not-are_many
returns-then-not-are_many c =
    values_uncounted c.args.node_type (rows_at c.args.scene.now c.args.node) c.args.values.now c.field_count-count.result c.are_many.result c.field_count-count.ensures.is c.are_many.ensures c.if-not-are_many.true

pub returns-then-not-field_fits : goal.returns-then-not-field_fits
returns-then-not-field_fits c =
    let rows = rows_at c.args.scene.now c.args.node in
    let same = values_counted rows c.args.values.now c.field_count-count.result c.are_many.result c.field_count-count.ensures.is c.are_many.ensures c.if-not-are_many.false in
    let within : c.loop-number.number < length c.args.values.now = omega (arith, c.loop-number-test.true, c.field_count-count.ensures.is, same) in
    let at : slice_get c.args.values.now c.loop-number.number ≡ Some c.index-values-number.result =
    slice_get_read c.args.values.now (length c.args.values.now) c.loop-number.number c.index-values-number.result refl within (search rules) in
    value_fails c.args.node_type rows c.args.values.now c.loop-number.number c.index-values-number.result _ same at c.loop-number.invariant c.field_fits.result c.field_fits.ensures c.if-not-field_fits.true

pub loop-number-preserved : goal.loop-number-preserved
loop-number-preserved c =
    let rows = rows_at c.args.scene.now c.args.node in
    let same = values_counted rows c.args.values.now c.field_count-count.result c.are_many.result c.field_count-count.ensures.is c.are_many.ensures c.if-not-are_many.false in
    let within : c.loop-number.number < length c.args.values.now = omega (arith, c.loop-number-test.true, c.field_count-count.ensures.is, same) in
    let at : slice_get c.args.values.now c.loop-number.number ≡ Some c.index-values-number.result =
    slice_get_read c.args.values.now (length c.args.values.now) c.loop-number.number c.index-values-number.result refl within (search rules) in
    value_more c.args.node_type rows c.args.values.now c.loop-number.number c.index-values-number.result _ same at c.loop-number.invariant c.field_fits.result c.field_fits.ensures c.if-not-field_fits.false

pub returns : goal.returns
returns c =
    let rows = rows_at c.args.scene.now c.args.node in
    let same = values_counted rows c.args.values.now c.field_count-count.result c.are_many.result c.field_count-count.ensures.is c.are_many.ensures c.if-not-are_many.false in
    values_done c.args.node_type rows c.args.values.now c.loop-number.number _ same (search rules) c.loop-number.invariant
