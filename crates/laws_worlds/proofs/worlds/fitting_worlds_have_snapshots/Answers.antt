use Rattle.laws_worlds.proofs.Snapshots.{fitting_have}
use Rattle.laws_worlds.proofs.worlds.fitting_worlds_have_snapshots.Goals as goal

pub returns : goal.returns
returns c = fitting_have
