use Rattle.share_welcomes.proofs.Boots.{base_of_log}
use Rattle.share_welcomes.proofs.laws.a_base_is_of_the_log.Goals as goal

pub returns : goal.returns
returns c = base_of_log
