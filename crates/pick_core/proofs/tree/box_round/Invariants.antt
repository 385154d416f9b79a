use Rattle.std.proofs.Common.{◌-◌, length}
use Rattle.pick_core.proofs.TreeRuns.{IsRound}
use Rattle.pick_core.proofs.tree.box_round.Given as goal

abbrev pub invariant-loop-at : goal.invariant-loop-at
invariant-loop-at l = IsRound l.lower l.run l.at l.outer

abbrev pub decreases-loop-at : goal.decreases-loop-at
decreases-loop-at l = length l.lower - l.at
