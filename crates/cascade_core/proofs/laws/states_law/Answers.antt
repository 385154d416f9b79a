use Rattle.cascade_core.proofs.KindLemmas.{states_stand_always}
use Rattle.cascade_core.proofs.laws.states_law.Goals as goal

pub returns : goal.returns
returns c = states_stand_always
