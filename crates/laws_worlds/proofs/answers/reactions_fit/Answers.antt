use Rattle.laws_worlds.proofs.Reactions.{all_reactions_fit}
use Rattle.laws_worlds.proofs.answers.reactions_fit.Goals as goal

pub returns : goal.returns
returns c = λ t ds. all_reactions_fit ds t
