use Rattle.std.proofs.Common.{length}
use Rattle.cascade_world.proofs.idle.+first_start.Given as goal

abbrev pub decreases-first_start : goal.decreases-first_start
decreases-first_start l = length l.nodes.now
