use Rattle.std.proofs.Common.{◌≡◌}
use Rattle.share_turns.proofs.udp.UdpPortPort.receive.Given as goal

abbrev pub invariant-loop-passed : goal.invariant-loop-passed
invariant-loop-passed l = l.self.failed ≡ l.initial.self.failed
