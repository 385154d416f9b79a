use Rattle.laws_worlds.proofs.Pointers.{all_points_fit, all_disables_fit}
use Rattle.laws_worlds.proofs.answers.touch_sensors_fit.Goals as goal

pub returns-clause-points : goal.returns-clause-points
returns-clause-points c = all_points_fit

pub returns-clause-disables : goal.returns-clause-disables
returns-clause-disables c = all_disables_fit
