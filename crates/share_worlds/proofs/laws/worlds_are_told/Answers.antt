use Rattle.share_worlds.proofs.Told.{worlds_are_told}
use Rattle.share_worlds.proofs.laws.worlds_are_told.Goals as goal

pub returns : goal.returns
returns c = worlds_are_told
