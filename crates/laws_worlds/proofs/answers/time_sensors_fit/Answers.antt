use Rattle.laws_worlds.proofs.Clocks.{all_sets_fit, all_ticks_fit}
use Rattle.laws_worlds.proofs.answers.time_sensors_fit.Goals as goal

pub returns-clause-sets : goal.returns-clause-sets
returns-clause-sets c = all_sets_fit

pub returns-clause-ticks : goal.returns-clause-ticks
returns-clause-ticks c = all_ticks_fit
