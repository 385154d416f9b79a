use Rattle.sensor_plane.proofs.Dragging.{goes_by_its_presser}
use Rattle.sensor_plane.proofs.laws.drags_go_by_their_presser_law.Goals as goal

pub returns : goal.returns
returns c = goes_by_its_presser
