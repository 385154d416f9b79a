use Rattle.sensor_plane.proofs.Fitting.{have_one_parts}
use Rattle.sensor_plane.proofs.laws.planes_have_one_parts_law.Goals as goal

pub returns : goal.returns
returns c = have_one_parts
