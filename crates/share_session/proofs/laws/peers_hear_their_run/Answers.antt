use Rattle.share_session.proofs.RunLaws.{hears_its_run}
use Rattle.share_session.proofs.laws.peers_hear_their_run.Goals as goal

pub returns : goal.returns
returns c = hears_its_run
