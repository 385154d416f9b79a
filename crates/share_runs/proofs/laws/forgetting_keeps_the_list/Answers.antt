use Rattle.share_runs.proofs.Forgotten.{stays_of_log}
use Rattle.share_runs.proofs.laws.forgetting_keeps_the_list.Goals as goal

pub returns : goal.returns
returns c = stays_of_log
