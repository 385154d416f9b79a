use Rattle.std.proofs.Common.{rules}
use Rattle.snapshot_core.proofs.opening.none_left.Goals as goal

pub returns-clause-ok : goal.returns-clause-ok
returns-clause-ok c = search rules
