use Rattle.std.proofs.Common.{◌≤◌, ◌-◌, ◌^◌}
use Rattle.app_part.specs.Whole.{IsMending}
use Rattle.app_part.proofs.part.mended.Given as goal

abbrev pub invariant-loop-tries : goal.invariant-loop-tries
invariant-loop-tries l = IsMending l.document l.tries l.mends × (l.tries ≤ 2 ^ 16)

abbrev pub decreases-loop-tries : goal.decreases-loop-tries
decreases-loop-tries l = 2 ^ 16 - l.tries
