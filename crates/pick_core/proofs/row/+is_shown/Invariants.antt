use Rattle.std.proofs.Common.{length}
use Rattle.pick_core.proofs.row.+is_shown.Given as goal

abbrev pub decreases-is_shown : goal.decreases-is_shown
decreases-is_shown l = length l.trail.now
