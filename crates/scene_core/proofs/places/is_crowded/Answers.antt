use Rattle.std.proofs.lemmas.List.{drop_all}
use Rattle.scene_core.proofs.Crowds.{full, next, under}
use Rattle.scene_core.proofs.places.is_crowded.Goals as goal

pub returns-then-not-add_sensor : goal.returns-then-not-add_sensor
returns-then-not-add_sensor c =
    full c.args.nodes.now c.args.list.now c.loop-n.sensors.items c.loop-n.n-index 0 c.loop-n-test.true c.loop-n.invariant.all
    (c.add_sensor.ensures.full c.if-not-add_sensor.true)

pub loop-n-preserved : goal.loop-n-preserved
loop-n-preserved c = record {
  few = c.add_sensor.ensures.few;
  all = next c.args.nodes.now c.args.list.now c.loop-n.sensors.items c.add_sensor.new.sensors.items c.loop-n.n-index 0 c.loop-n-test.true c.loop-n.invariant.all
      (c.add_sensor.ensures.fits c.if-not-add_sensor.false);
}

pub returns : goal.returns
returns c =
    let all = rw (drop_all c.loop-n.n-index c.args.list.now c.loop-n-test.false) at c.loop-n.invariant.all in
    under c.loop-n.sensors.items _ c.loop-n.invariant.few all
