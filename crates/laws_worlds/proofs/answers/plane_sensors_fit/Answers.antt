use Rattle.laws_worlds.proofs.Planes.{all_drags_fit, all_forget}
use Rattle.laws_worlds.proofs.answers.plane_sensors_fit.Goals as goal

pub returns-clause-points : goal.returns-clause-points
returns-clause-points c = all_drags_fit

pub returns-clause-disables : goal.returns-clause-disables
returns-clause-disables c = all_forget
