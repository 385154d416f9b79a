use Rattle.std.proofs.Common.{◌≡◌}
use Rattle.share_turns.specs.Runs.{HostTurns, hosting}
use Rattle.share_turns.specs.Told.{passed}
use Rattle.share_turns.proofs.runs.host_run.Given as goal

abbrev pub invariant-loop-turn : goal.invariant-loop-turn
invariant-loop-turn g l =
    HostTurns l.fn.host.mark l.clocks l.plan l.turn (passed (g.P.Port.told l.fn.port) (g.P.Port.rested l.fn.port)) (passed (g.P.Port.told l.port) (g.P.Port.rested l.port)) l.fn.host.part (hosting l.host.part l.attendance)
    × (l.host.mark ≡ l.fn.host.mark)
    × (g.P.Port.failure_count l.port ≡ g.P.Port.failure_count l.fn.port)
