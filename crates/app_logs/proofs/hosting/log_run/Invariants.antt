use Rattle.std.proofs.Common.{◌≡◌, IsTrue}
use Rattle.share_store.specs.OneLog.{Last}
use Rattle.share_turns.specs.Runs.{hosting}
use Rattle.share_turns.specs.Told.{passed}
use Rattle.app_logs.specs.Clocks.{first_due}
use Rattle.app_logs.specs.Hosting.{LogTurns, moment}
use Rattle.app_logs.proofs.hosting.log_run.Given as goal

abbrev pub invariant-loop-turn : goal.invariant-loop-turn
invariant-loop-turn g l =
    LogTurns l.fn.hosting.mark l.clocks l.plan l.turn
    (moment (hosting l.fn.hosting.part l.fn.hosting.attendance) (first_due l.plan.beat.every) (g.L.Log.known l.fn.log) (g.L.Log.is_clean l.fn.log)
    (passed (g.P.Port.told l.fn.port) (g.P.Port.rested l.fn.port)))
    (moment (hosting l.current.part l.current.attendance) l.due (g.L.Log.known l.log) (g.L.Log.is_clean l.log)
    (passed (g.P.Port.told l.port) (g.P.Port.rested l.port)))
    × (l.current.mark ≡ l.fn.hosting.mark)
    × (g.P.Port.failure_count l.port ≡ g.P.Port.failure_count l.fn.port)
    × IsTrue (g.L.Log.is_open l.log)
    × (Last (g.L.Log.may_leave l.fn.log) (g.L.Log.known l.fn.log) → IsTrue (g.L.Log.is_clean l.log)
    → Last (g.L.Log.may_leave l.log) (g.L.Log.known l.log))
