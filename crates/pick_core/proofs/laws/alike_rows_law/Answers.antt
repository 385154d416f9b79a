use Rattle.pick_core.proofs.Alike.{alike_rows}
use Rattle.pick_core.proofs.laws.alike_rows_law.Goals as goal

pub returns : goal.returns
returns c = alike_rows
