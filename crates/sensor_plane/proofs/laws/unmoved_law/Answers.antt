use Rattle.sensor_plane.proofs.Dragging.{is_unmoved}
use Rattle.sensor_plane.proofs.laws.unmoved_law.Goals as goal

pub returns : goal.returns
returns c = is_unmoved
