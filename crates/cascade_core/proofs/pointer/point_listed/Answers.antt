use Rattle.std.proofs.Common.{◌∙◌, sym}
use Rattle.cascade_core.proofs.Resting.{scripts_then}
use Rattle.cascade_core.proofs.Steps.{fold_ended, fold_next}
use Rattle.cascade_core.proofs.pointer.point_listed.Goals as goal

pub loop-sensor-preserved : goal.loop-sensor-preserved
loop-sensor-preserved g c = record {
  rest = c.in_ok-point_node.ensures.rest;
  scripts = scripts_then c.loop-sensor.invariant.scripts c.point_node.ensures.scripts;
  done = fold_next _ c.args.sensors.now c.loop-sensor.sensor-index _ _ _ c.loop-sensor-test.true c.in_ok-point_node.ensures.course ∙ c.loop-sensor.invariant.done;
}

pub returns-clause-course : goal.returns-clause-course
returns-clause-course g c =
    sym (fold_ended _ c.args.sensors.now c.loop-sensor.sensor-index _ c.loop-sensor-test.false) ∙ c.loop-sensor.invariant.done

pub returns-in_err-point_node-clause-scripts : goal.returns-in_err-point_node-clause-scripts
returns-in_err-point_node-clause-scripts g c = scripts_then c.loop-sensor.invariant.scripts c.point_node.ensures.scripts
