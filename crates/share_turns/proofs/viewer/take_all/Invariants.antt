use Rattle.std.proofs.Common.{◌≡◌}
use Rattle.share_core.specs.Viewer.{with_state}
use Rattle.share_turns.proofs.Answering.{went_on}
use Rattle.share_turns.proofs.Taking.{TakesSoFar}
use Rattle.share_turns.proofs.viewer.take_all.Given as goal

abbrev pub invariant-loop-datagram : goal.invariant-loop-datagram
invariant-loop-datagram g l =
    TakesSoFar l.fn.viewer went_on (g.P.Port.told l.fn.port) (g.P.Port.told l.port) l.viewer.state l._datagram
    × (l.viewer ≡ with_state l.fn.viewer l.viewer.state)
    × (g.P.Port.failure_count l.port ≡ g.P.Port.failure_count l.fn.port)
