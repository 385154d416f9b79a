use Rattle.std.proofs.Common.{◌≡◌, ◌≤◌, replicate}
use Rattle.app_commands.proofs.stages.with_others.Given as goal

abbrev pub invariant-loop-stage : goal.invariant-loop-stage
invariant-loop-stage l = (l.stages.items ≡ replicate l._stage l.fn.first) × (l._stage ≤ l.count)
