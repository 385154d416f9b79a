use Rattle.laws_worlds.proofs.Running.{attached_all_run}
use Rattle.laws_worlds.proofs.scripts.attached_run.Goals as goal

pub returns : goal.returns
returns c = attached_all_run
