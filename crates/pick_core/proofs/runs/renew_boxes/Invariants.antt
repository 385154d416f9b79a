use Rattle.std.proofs.Common.{◌-◌, length}
use Rattle.pick_core.specs.Runs.{seen_in}
use Rattle.pick_core.proofs.TreeRuns.{IsSoFar}
use Rattle.pick_core.proofs.runs.renew_boxes.Given as goal

abbrev pub invariant-loop-run : goal.invariant-loop-run
invariant-loop-run l = IsSoFar l.first l.last l.run l.fn.runs l.runs (seen_in l.rows)

abbrev pub decreases-loop-run : goal.decreases-loop-run
decreases-loop-run l = length l.runs - l.run
