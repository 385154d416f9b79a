use Rattle.std.proofs.Common.{◌≡◌, take}
use Rattle.script_host.specs.Restoring.{with_states}
use Rattle.script_host.proofs.restore.restore_each.Given as goal

abbrev pub invariant-loop-k : goal.invariant-loop-k
invariant-loop-k g l = l.slots ≡ with_states l.initial.slots (take l.k l.states)
