use Rattle.std.proofs.Common.{◌≡◌}
use Rattle.share_turns.proofs.Gathering.{PassedSoFar}
use Rattle.share_turns.proofs.give.pass_over.Given as goal

abbrev pub invariant-loop-datagram : goal.invariant-loop-datagram
invariant-loop-datagram g l =
    PassedSoFar (g.P.Port.told l.fn.port) (g.P.Port.told l.port) l._datagram
    × (g.P.Port.failure_count l.port ≡ g.P.Port.failure_count l.fn.port)
