use Rattle.std.proofs.Common.{rules}
use Rattle.snapshot_core.proofs.opening.is_older.Goals as goal

pub returns : goal.returns
returns c = search rules
