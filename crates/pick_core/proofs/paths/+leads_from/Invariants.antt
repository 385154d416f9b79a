use Rattle.std.proofs.Common.{length}
use Rattle.pick_core.proofs.paths.+leads_from.Given as goal

abbrev pub decreases-leads_from : goal.decreases-leads_from
decreases-leads_from l = length l.path.now
