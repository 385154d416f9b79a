use Rattle.cascade_world.proofs.Fitting.{clock_fits}
use Rattle.cascade_world.proofs.fits.time_fits.Goals as goal

pub returns-in-TimeSensor : goal.returns-in-TimeSensor
returns-in-TimeSensor c = clock_fits c.args.node_type c.cycle-cycle.result c.args.time c.in-TimeSensor.is c.cycle-cycle.ensures.value c.cycle-cycle.ensures.fits
