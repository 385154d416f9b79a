use Rattle.share_runs.proofs.ListLaws.{never_other}
use Rattle.share_runs.proofs.laws.logs_are_one_list.Goals as goal

pub returns : goal.returns
returns c = never_other
