use Rattle.laws_written.proofs.Opening.{openings_of_type}
use Rattle.laws_written.proofs.again.openings_are_of_type.Goals as goal

pub returns : goal.returns
returns c = openings_of_type c.table_law.ensures.typed
