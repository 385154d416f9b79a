use Rattle.std.proofs.Common.{length}
use Rattle.pick_core.proofs.paths.+inward_from.Given as goal

abbrev pub decreases-inward_from : goal.decreases-inward_from
decreases-inward_from l = length l.path.now
