use Rattle.laws_worlds.proofs.Saved.{saved_have, running_have}
use Rattle.laws_worlds.proofs.networks.saved_worlds_load_again.Goals as goal

pub returns-clause-saved : goal.returns-clause-saved
returns-clause-saved c = saved_have

pub returns-clause-running : goal.returns-clause-running
returns-clause-running c = running_have
