use Rattle.share_session.proofs.Lengths.{welcomes_are_shorter}
use Rattle.share_session.proofs.laws.welcomes_are_shorter.Goals as goal

pub returns : goal.returns
returns c = welcomes_are_shorter
