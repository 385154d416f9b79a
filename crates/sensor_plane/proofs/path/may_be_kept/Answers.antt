use Rattle.sensor_plane.proofs.Paths.{short_fits}
use Rattle.sensor_plane.proofs.path.may_be_kept.Goals as goal

pub returns-clause-fits : goal.returns-clause-fits
returns-clause-fits c = short_fits c.args.positions.now c.requires c.type_inv.positions
