use Rattle.share_welcomes.proofs.OfLog.{sends_of_log}
use Rattle.share_welcomes.proofs.laws.what_is_sent_is_of_the_log.Goals as goal

pub returns : goal.returns
returns c = sends_of_log
