use Rattle.pick_core.proofs.SameLocal.{one_local}
use Rattle.pick_core.proofs.laws.one_local_law.Goals as goal

pub returns : goal.returns
returns c = one_local
