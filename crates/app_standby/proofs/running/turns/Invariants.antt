use Rattle.std.proofs.Common.{List, ◌++◌, IsTrue}
use Rattle.share_entries.specs.Entry.{EntryView}
use Rattle.share_store.specs.OneLog.{Last}
use Rattle.app_standby.specs.Origins.{IsNowFrom}
use Rattle.app_standby.specs.Steps.{Goes, moment}
use Rattle.app_standby.specs.declared.state.Now.TheVariants as now
use Rattle.app_standby.proofs.running.turns.Given as goal

abbrev pub invariant-loop-turn : goal.invariant-loop-turn
invariant-loop-turn g l = record {
  goes : (below : List EntryView)
      → Goes l.origin.mark l.origin.viewers (moment (below ++ g.L.Log.known l.fn.log) (g.L.Log.is_clean l.fn.log) (g.P.Port.told l.fn.port))
      (moment (below ++ g.L.Log.known l.log) (g.L.Log.is_clean l.log) (g.P.Port.told l.port))
      (IsNowFrom l.origin below (g.L.Log.known l.fn.log) (now.Hosting l.fn.hosting)) (IsNowFrom l.origin below (g.L.Log.known l.log) l.now);
  lasts : Last (g.L.Log.may_leave l.fn.log) (g.L.Log.known l.fn.log) → IsTrue (g.L.Log.is_clean l.log) → Last (g.L.Log.may_leave l.log) (g.L.Log.known l.log);
}
