use Rattle.laws_worlds.proofs.Outputs.{all_outputs_typed}
use Rattle.laws_worlds.proofs.scripts.outputs_typed.Goals as goal

pub returns : goal.returns
returns c = all_outputs_typed
