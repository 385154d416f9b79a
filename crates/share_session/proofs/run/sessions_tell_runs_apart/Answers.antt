use Rattle.share_session.proofs.RunLaws.{sessions_tell}
use Rattle.share_session.proofs.run.sessions_tell_runs_apart.Goals as goal

pub returns : goal.returns
returns c = sessions_tell
