use Rattle.std.proofs.Common.{◌≡◌, take}
use Rattle.app_logs.specs.Clocks.{times_after}
use Rattle.app_logs.proofs.clocks.times_after.Given as goal

abbrev pub invariant-loop-input : goal.invariant-loop-input
invariant-loop-input l = l.times.items ≡ times_after l.last (take l.input-index l.inputs)
