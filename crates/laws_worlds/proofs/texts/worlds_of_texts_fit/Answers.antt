use Rattle.laws_worlds.proofs.NetworksWorlds.{worlds_fit, worlds_have}
use Rattle.laws_worlds.proofs.texts.worlds_of_texts_fit.Goals as goal

pub returns-clause-fit : goal.returns-clause-fit
returns-clause-fit c = worlds_fit

pub returns-clause-snapshots : goal.returns-clause-snapshots
returns-clause-snapshots c = worlds_have
