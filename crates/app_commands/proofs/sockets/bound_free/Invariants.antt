use Rattle.std.proofs.Common.{◌≡◌, ◌≤◌, length}
use Rattle.app_commands.proofs.sockets.bound_free.Given as goal

abbrev pub invariant-loop-port : goal.invariant-loop-port
invariant-loop-port g l = (length l.ports.items ≡ l._port) × (l._port ≤ l.count)
