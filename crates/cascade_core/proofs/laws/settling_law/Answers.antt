use Rattle.cascade_core.proofs.SettleLemmas.{settles_all}
use Rattle.cascade_core.proofs.laws.settling_law.Goals as goal

pub returns : goal.returns
returns c = settles_all
