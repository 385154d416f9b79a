use Rattle.std.proofs.Common.{◌∙◌, ap, take_all}
use Rattle.std.specs.Prelude.{flat_map}
use Rattle.scene_text.proofs.Ranges.{flat_map_next}
use Rattle.scene_text.proofs.raw.runs.Goals as goal

pub loop-value-preserved : goal.loop-value-preserved
loop-value-preserved g c =
    flat_map_next g.T.Numerals.run c.args.values.now c.loop-value.value-index c.value-item.result c.loop-value.run.items _
    c.loop-value-test.true c.value-item.is c.loop-value.invariant c.in_ok-push_to.ensures

pub returns : goal.returns
returns g c = c.loop-value.invariant ∙ ap (flat_map g.T.Numerals.run) (take_all c.loop-value.value-index c.args.values.now c.loop-value-test.false)
