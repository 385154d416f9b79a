use Rattle.sensor_plane.proofs.Fitting.{are_planes}
use Rattle.sensor_plane.proofs.laws.parts_are_planes_law.Goals as goal

pub returns : goal.returns
returns c = are_planes
