use Rattle.std.proofs.Common.{length}
use Rattle.share_runs.proofs.viewer_run.+due_of.Given as goal

abbrev pub decreases-due_of : goal.decreases-due_of
decreases-due_of l = length l.held.now
