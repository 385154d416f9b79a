use Rattle.laws_written.proofs.TextAgain.{all_numbered_again, all_numbered_under_root}
use Rattle.laws_written.proofs.numbering.scenes_are_numbered_again.Goals as goal

pub returns-clause-same : goal.returns-clause-same
returns-clause-same c = all_numbered_again

pub returns-clause-under_root : goal.returns-clause-under_root
returns-clause-under_root c = all_numbered_under_root
