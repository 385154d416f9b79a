use Rattle.share_session.proofs.RunLaws.{datagrams_tell}
use Rattle.share_session.proofs.laws.datagrams_tell_runs_apart.Goals as goal

pub returns : goal.returns
returns c = datagrams_tell
