use Rattle.pick_core.proofs.Choosing.{picks-nearest}
use Rattle.pick_core.proofs.laws.picks_nearest_law.Goals as goal

pub returns : goal.returns
returns c = picks-nearest
