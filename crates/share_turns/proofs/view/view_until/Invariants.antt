use Rattle.std.proofs.Common.{◌≡◌, ◌≤◌}
use Rattle.share_core.specs.Viewer.{with_state}
use Rattle.share_turns.specs.Views.{ViewerTurns}
use Rattle.share_turns.proofs.view.view_until.Given as goal

abbrev pub invariant-loop-turn : goal.invariant-loop-turn
invariant-loop-turn g l =
    ViewerTurns l.fn.viewer l.host l.points l.until l.forget l.turn (g.P.Port.told l.fn.port) (g.P.Port.told l.port) l.offered l.viewer.state
    × (l.viewer ≡ with_state l.fn.viewer l.viewer.state)
    × (g.P.Port.failure_count l.port ≡ g.P.Port.failure_count l.fn.port)
    × (l.offered ≤ l.turn)
