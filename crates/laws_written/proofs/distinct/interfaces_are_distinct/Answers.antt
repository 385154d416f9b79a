use Rattle.laws_written.proofs.DistinctDocuments.{all_distinct}
use Rattle.laws_written.proofs.distinct.interfaces_are_distinct.Goals as goal

pub returns : goal.returns
returns c = all_distinct
