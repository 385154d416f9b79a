use Rattle.laws_worlds.proofs.NetworksWorlds.{running_have, saved_have}
use Rattle.laws_worlds.proofs.texts.saved_worlds_of_texts_load_again.Goals as goal

pub returns-clause-saved : goal.returns-clause-saved
returns-clause-saved c = saved_have

pub returns-clause-running : goal.returns-clause-running
returns-clause-running c = running_have
