use Rattle.script_host.proofs.OutputLemmas.{sends_by_outputs}
use Rattle.script_host.proofs.laws.outputs_law.Goals as goal

pub returns : goal.returns
returns c = sends_by_outputs
