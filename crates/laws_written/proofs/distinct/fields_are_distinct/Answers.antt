use Rattle.laws_written.proofs.DistinctScenes.{scenes_distinct}
use Rattle.laws_written.proofs.distinct.fields_are_distinct.Goals as goal

pub returns : goal.returns
returns c = scenes_distinct c.table_law.ensures.distinct
