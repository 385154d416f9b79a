use Rattle.std.proofs.Common.{◌≡◌}
use Rattle.app_commands.proofs.addressed.AddressedPortPort.receive.Given as goal

-- a datagram that is passed over is no failure
abbrev pub invariant-loop-passed : goal.invariant-loop-passed
invariant-loop-passed g l = l.self.failed ≡ l.fn.self.failed
