use Rattle.script_running.proofs.CallLemmas.{kinds_stand}
use Rattle.script_running.proofs.laws.kinds_law.Goals as goal

pub returns : goal.returns
returns c = kinds_stand
