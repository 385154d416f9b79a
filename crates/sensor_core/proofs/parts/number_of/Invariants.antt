use Rattle.std.proofs.Common.{◌≡◌, ◌+◌, ◌-◌, ◌^◌, ◌≤◌, drop}
use Rattle.x3d_values.specs.Ranges.{max_viewers}
use Rattle.sensor_core.specs.Parts.{number_of}
use Rattle.sensor_core.proofs.parts.number_of.Given as goal

abbrev pub invariant-loop-left : goal.invariant-loop-left
invariant-loop-left l = record {
  left : l.left ≤ max_viewers;
  number : l.number ≡ number_of (drop l.left l.set);
  small : l.number + 1 ≤ 2 ^ (max_viewers - l.left);
}

abbrev pub decreases-loop-left : goal.decreases-loop-left
decreases-loop-left l = l.left
