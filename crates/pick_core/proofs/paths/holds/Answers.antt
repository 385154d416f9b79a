use Rattle.std.proofs.Common.{◌∙◌}
use Rattle.pick_core.proofs.Leading.{held_is}
use Rattle.pick_core.proofs.paths.holds.Goals as goal

pub returns : goal.returns
returns c = c.is_held.ensures ∙ held_is c.args.scene.now c.args.owner c.args.sensor
