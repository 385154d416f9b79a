use Rattle.laws_worlds.proofs.Steps.{all_openings_fit}
use Rattle.laws_worlds.proofs.worlds.openings_fit.Goals as goal

pub returns : goal.returns
returns c = all_openings_fit
