use Rattle.std.proofs.Common.{◌-◌, length}
use Rattle.pick_core.proofs.TreeRuns.{IsSoFar}
use Rattle.pick_core.proofs.tree.renew_groups.Given as goal

abbrev pub invariant-loop-group : goal.invariant-loop-group
invariant-loop-group l = IsSoFar l.first l.last l.group l.fn.groups l.groups l.runs

abbrev pub decreases-loop-group : goal.decreases-loop-group
decreases-loop-group l = length l.groups - l.group
