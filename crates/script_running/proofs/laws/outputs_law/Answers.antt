use Rattle.script_running.proofs.Outputs.{send_by_outputs}
use Rattle.script_running.proofs.laws.outputs_law.Goals as goal

pub returns : goal.returns
returns c = send_by_outputs
