use Rattle.laws_worlds.proofs.Steps.{all_steps_fit}
use Rattle.laws_worlds.proofs.worlds.steps_fit.Goals as goal

pub returns : goal.returns
returns c = all_steps_fit
