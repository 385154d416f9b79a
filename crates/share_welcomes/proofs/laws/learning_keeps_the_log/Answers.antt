use Rattle.share_welcomes.proofs.OfLog.{learns_of_log}
use Rattle.share_welcomes.proofs.laws.learning_keeps_the_log.Goals as goal

pub returns : goal.returns
returns c = learns_of_log
