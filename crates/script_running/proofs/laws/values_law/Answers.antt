use Rattle.script_running.proofs.CallLemmas.{values_return}
use Rattle.script_running.proofs.laws.values_law.Goals as goal

pub returns : goal.returns
returns c = values_return
