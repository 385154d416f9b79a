use Rattle.std.proofs.Common.{◌≡◌, ◌≤◌, length, take}
use Rattle.pick_core.specs.Trail.{carried}
use Rattle.pick_core.proofs.trail.carry.Given as goal

abbrev pub invariant-loop-left : goal.invariant-loop-left
invariant-loop-left l = record {
  within : l.left ≤ length l.trail;
  rest : carried l.scene l.state (take l.left l.trail) l.bounds ≡ carried l.scene l.state l.trail l.initial.bounds;
}

abbrev pub decreases-loop-left : goal.decreases-loop-left
decreases-loop-left l = l.left
