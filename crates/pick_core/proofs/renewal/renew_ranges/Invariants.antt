use Rattle.std.proofs.Common.{◌≡◌, length}
use Rattle.pick_core.specs.Tree.{IsTreeOf}
use Rattle.pick_core.specs.Runs.{seen_in}
use Rattle.pick_core.proofs.Renewed.{IsSoFar}
use Rattle.pick_core.proofs.renewal.renew_ranges.Given as goal

abbrev pub invariant-loop-left : goal.invariant-loop-left
invariant-loop-left l = record {
  long : length l.rows ≡ length l.fn.rows;
  so_far : IsSoFar l.scene l.state l.node l.ranges.ranges.items l.left l.place l.fn.rows l.rows;
  tree : IsTreeOf l.tree (seen_in l.rows);
}

abbrev pub decreases-loop-left : goal.decreases-loop-left
decreases-loop-left l = l.left
