use Rattle.cascade_core.proofs.KindLemmas.{kinds_stand_always}
use Rattle.cascade_core.proofs.laws.kinds_law.Goals as goal

pub returns : goal.returns
returns c = kinds_stand_always
