use Rattle.share_runs.proofs.ListLaws.{one_list}
use Rattle.share_runs.proofs.laws.viewers_know_one_list.Goals as goal

pub returns : goal.returns
returns c = one_list
