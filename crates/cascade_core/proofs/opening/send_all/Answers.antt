use Rattle.cascade_core.proofs.Resting.{scripts_then}
use Rattle.cascade_core.proofs.opening.send_all.Goals as goal

pub returns-in_err-send_one-clause-scripts : goal.returns-in_err-send_one-clause-scripts
returns-in_err-send_one-clause-scripts g c = scripts_then c.loop-sending.invariant.scripts c.send_one.ensures.scripts
