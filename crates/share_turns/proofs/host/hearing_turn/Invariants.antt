use Rattle.std.proofs.Common.{◌≡◌}
use Rattle.share_turns.proofs.Turning.{Turned}
use Rattle.share_turns.proofs.host.hearing_turn.Given as goal

abbrev pub invariant-loop-datagram : goal.invariant-loop-datagram
invariant-loop-datagram g l =
    Turned l.fn.host.mark l.fn.clock (g.P.Port.told l.fn.port) (g.P.Port.told l.port) l.fn.host.part l.host.part l.fn.heard l.heard l._datagram
    × (l.host.mark ≡ l.fn.host.mark)
    × (g.P.Port.failure_count l.port ≡ g.P.Port.failure_count l.fn.port)
    × (g.P.Port.rested l.port ≡ g.P.Port.rested l.fn.port)
