use Rattle.laws_written.proofs.Beginning.{kept_again}
use Rattle.laws_written.proofs.again.values_are_kept_again.Goals as goal

pub returns : goal.returns
returns c = kept_again
