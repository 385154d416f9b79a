use Rattle.pick_core.proofs.Inside.{passed-inside}
use Rattle.pick_core.proofs.tree_laws.passed_inside_law.Goals as goal

pub returns : goal.returns
returns c = passed-inside
