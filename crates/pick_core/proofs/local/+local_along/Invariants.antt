use Rattle.std.proofs.Common.{length}
use Rattle.pick_core.proofs.local.+local_along.Given as goal

abbrev pub decreases-local_along : goal.decreases-local_along
decreases-local_along l = length l.path.now
