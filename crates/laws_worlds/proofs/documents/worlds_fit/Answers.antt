use Rattle.laws_worlds.proofs.DocumentWorlds.{all_worlds_fit, all_have_snapshots}
use Rattle.laws_worlds.proofs.documents.worlds_fit.Goals as goal

pub returns-clause-fit : goal.returns-clause-fit
returns-clause-fit c = all_worlds_fit

pub returns-clause-snapshots : goal.returns-clause-snapshots
returns-clause-snapshots c = all_have_snapshots
