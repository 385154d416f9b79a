use Rattle.std.proofs.Common.{◌-◌, length}
use Rattle.pick_core.specs.Sites.{renewed}
use Rattle.pick_core.proofs.Renewed.{IsDone}
use Rattle.pick_core.proofs.renewal.renew_range.Given as goal

abbrev pub invariant-loop-at : goal.invariant-loop-at
invariant-loop-at l = IsDone (renewed l.scene l.state l.node) l.fn.rows l.range l.at l.rows

abbrev pub decreases-loop-at : goal.decreases-loop-at
decreases-loop-at l = length l.rows - l.at
