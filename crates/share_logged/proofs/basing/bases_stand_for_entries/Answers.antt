use Rattle.share_logged.proofs.Bases.{bases_stand}
use Rattle.share_logged.proofs.basing.bases_stand_for_entries.Goals as goal

pub returns : goal.returns
returns c = bases_stand
