use Rattle.pick_core.proofs.Leading.{points_are_inward}
use Rattle.pick_core.proofs.track_laws.sensors_points_are_inward_law.Goals as goal

pub returns : goal.returns
returns c = points_are_inward
