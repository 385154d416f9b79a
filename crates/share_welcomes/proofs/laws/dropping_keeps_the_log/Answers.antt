use Rattle.share_welcomes.proofs.OfLog.{drops_of_log}
use Rattle.share_welcomes.proofs.laws.dropping_keeps_the_log.Goals as goal

pub returns : goal.returns
returns c = drops_of_log
