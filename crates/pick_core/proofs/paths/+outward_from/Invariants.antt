use Rattle.std.proofs.Common.{length}
use Rattle.pick_core.proofs.paths.+outward_from.Given as goal

abbrev pub decreases-outward_from : goal.decreases-outward_from
decreases-outward_from l = length l.path.now
