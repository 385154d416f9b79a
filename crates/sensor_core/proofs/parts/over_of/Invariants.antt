use Rattle.std.proofs.Common.{◌≡◌, ℕ, ◌<◌, ◌==◌, false, length, get_or}
use Rattle.std.specs.Int.{bit_at}
use Rattle.x3d_values.specs.Ranges.{max_viewers}
use Rattle.sensor_core.proofs.parts.over_of.Given as goal

abbrev pub invariant-loop-viewer : goal.invariant-loop-viewer
invariant-loop-viewer l = record {
  size : length l.set ≡ max_viewers;
  filled : (k : ℕ) → k < l.viewer → get_or l.set k false ≡ (bit_at l.number k == 1);
}
