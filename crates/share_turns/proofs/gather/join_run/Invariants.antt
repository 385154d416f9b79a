use Rattle.std.proofs.Common.{◌≡◌}
use Rattle.share_core.specs.Viewer.{with_gathering}
use Rattle.share_turns.specs.Gathers.{GatherTurns}
use Rattle.share_turns.proofs.gather.join_run.Given as goal

abbrev pub invariant-loop-turn : goal.invariant-loop-turn
invariant-loop-turn g l =
    GatherTurns l.fn.viewer.mark l.turn (g.P.Port.told l.fn.port) (g.P.Port.told l.port) l.fn.viewer.gathering l.viewer.gathering
    × (l.viewer ≡ with_gathering l.fn.viewer l.viewer.gathering)
    × (g.P.Port.failure_count l.port ≡ g.P.Port.failure_count l.fn.port)
