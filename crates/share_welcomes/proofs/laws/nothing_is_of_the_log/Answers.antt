use Rattle.share_welcomes.proofs.OfLog.{begins_of_log}
use Rattle.share_welcomes.proofs.laws.nothing_is_of_the_log.Goals as goal

pub returns : goal.returns
returns c = begins_of_log
