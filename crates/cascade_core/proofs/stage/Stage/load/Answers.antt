use Rattle.cascade_core.specs.Course.{wiring_at}
use Rattle.cascade_core.proofs.Openings.{live_untold}
use Rattle.cascade_core.proofs.Resting.{has_scripts_begun}
use Rattle.cascade_core.proofs.stage.Stage.load.Goals as goal

pub open-requires-clause-rest : goal.open-requires-clause-rest
open-requires-clause-rest g c = record {
  empty = c.in-Ok-parts_of.ensures.tasks;
  none = c.in-Ok-parts_of.ensures.replies;
  boxes = c.in-Ok-parts_of.ensures.boxes;
  has_scripts = has_scripts_begun (wiring_at c.in-Ok.routed) c.in-Ok-parts_of.parts.live c.args.scripts (c.in-Ok.ensures.sound c.args.scripts c.requires.fits);
}

pub open-requires-clause-live : goal.open-requires-clause-live
open-requires-clause-live g c = live_untold _ c.in-Ok.routed.scene c.in-Ok-parts_of.ensures.world c.in-Ok-parts_of.ensures.sent

pub invariant_of-result : goal.invariant_of-result
invariant_of-result g c =
    let rest = c.in-Ok-open.ensures.rest in
    (rest.boxes, c.in-Ok.ensures.runs, rest.has_scripts, c.in-Ok-open.ensures.scene.kinds)
