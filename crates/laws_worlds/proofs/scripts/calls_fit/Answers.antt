use Rattle.laws_worlds.proofs.Behaviours.{all_calls_fit}
use Rattle.laws_worlds.proofs.scripts.calls_fit.Goals as goal

pub returns : goal.returns
returns c = all_calls_fit
