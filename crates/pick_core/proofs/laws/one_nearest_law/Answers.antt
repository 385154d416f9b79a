use Rattle.pick_core.proofs.Unique.{one_nearest}
use Rattle.pick_core.proofs.laws.one_nearest_law.Goals as goal

pub returns : goal.returns
returns c = one_nearest
