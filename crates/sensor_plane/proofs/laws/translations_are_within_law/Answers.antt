use Rattle.sensor_plane.proofs.Dragging.{is_within}
use Rattle.sensor_plane.proofs.laws.translations_are_within_law.Goals as goal

pub returns : goal.returns
returns c = is_within
