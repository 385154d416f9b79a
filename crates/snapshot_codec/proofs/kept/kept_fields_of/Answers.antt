use Rattle.byte_codec.specs.Codec.{rows_at}
use Rattle.snapshot_codec.specs.Fields.{kept_codec}
use Rattle.snapshot_codec.proofs.Loops.{row_goes_on, row_ends, rows_done}
use Rattle.snapshot_codec.proofs.kept.kept_fields_of.Goals as goal

pub returns-in-Err : goal.returns-in-Err
returns-in-Err c = row_ends kept_codec _ c.loop-field.values c.args.fields.now c.loop-field.field-index _ c.loop-field.rest.now (rows_at kept_codec c.args.fields.now c.args.bytes.now) c.loop-field-test.true c.in-Err.ensures c.loop-field.invariant

pub loop-field-preserved : goal.loop-field-preserved
loop-field-preserved c =
    rw c.in-Ok-push.ensures.ok (row_goes_on kept_codec c.loop-field.values c.args.fields.now c.loop-field.field-index _ c.loop-field.rest.now _ _ (rows_at kept_codec c.args.fields.now c.args.bytes.now) c.loop-field-test.true c.in-Ok.ensures c.loop-field.invariant)

pub returns : goal.returns
returns c = rows_done kept_codec c.loop-field.values c.args.fields.now c.loop-field.field-index c.loop-field.rest.now (rows_at kept_codec c.args.fields.now c.args.bytes.now) c.loop-field-test.false c.loop-field.invariant
