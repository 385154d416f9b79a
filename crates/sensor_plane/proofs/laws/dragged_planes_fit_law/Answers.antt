use Rattle.sensor_plane.proofs.Fitting.{dragged_planes_fit}
use Rattle.sensor_plane.proofs.laws.dragged_planes_fit_law.Goals as goal

pub returns : goal.returns
returns c = dragged_planes_fit
