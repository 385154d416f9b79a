use Rattle.std.proofs.Common.{length}
use Rattle.cascade_world.proofs.aim.+inside_at.Given as goal

abbrev pub decreases-inside_at : goal.decreases-inside_at
decreases-inside_at l = length l.inside.now
