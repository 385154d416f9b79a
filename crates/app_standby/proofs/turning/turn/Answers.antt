use Rattle.std.proofs.Common.{List, ℕ, ◌++◌}
use Rattle.std.specs.Prelude.{⊤}
use Rattle.share_entries.specs.Entry.{EntryView}
use Rattle.share_turns.specs.Heard.{nobody}
use Rattle.share_turns.specs.Runs.{hosting}
use Rattle.share_turns.specs.Told.{passed}
use Rattle.app_standby.specs.State.{IsNowOf}
use Rattle.app_standby.specs.Steps.{Goes, moment}
use Rattle.app_standby.specs.declared.state.Now.TheVariants as now
use Rattle.app_standby.proofs.Turns.{end-goes, fault-ok, on-err, turn-goes}
use Rattle.app_standby.proofs.turning.turn.Goals as goal

pub returns-in-Ok-clause-goes : goal.returns-in-Ok-clause-goes
returns-in-Ok-clause-goes g c = λ mark viewers below.
    turn-goes mark c.args.hosting.mark c.in-Ok.after.mark viewers below c.args.plan.now.host.keep c.next-next.result.clock (g.L.Log.is_clean c.args.log.now) (g.L.Log.is_clean c.logged_turn.new.log)
    (g.L.Log.known c.args.log.now) (g.L.Log.known c.logged_turn.new.log)
    (passed (g.P.Port.told c.args.port.now) (g.P.Port.rested c.args.port.now)) (passed (g.P.Port.told c.logged_turn.new.port) (g.P.Port.rested c.logged_turn.new.port))
    (hosting c.args.hosting.part c.args.hosting.attendance) (hosting c.in-Ok.after.part c.in-Ok.after.attendance)
    c.in-Ok.ensures.mark c.in-Ok.ensures.done c.in-Ok.ensures.clean (c.in-Ok.ensures.shown viewers below) (c.in-Ok.ensures.current viewers below)

pub returns-in-Err-clause-goes : goal.returns-in-Err-clause-goes
returns-in-Err-clause-goes g c =
    fault-ok c.in-Err.fault c.after_fault.result
    (λ after. (mark : List ℕ) (viewers : ℕ) (below : List EntryView)
    → Goes mark viewers (moment (below ++ g.L.Log.known c.args.log.now) (g.L.Log.is_clean c.args.log.now) (g.P.Port.told c.args.port.now))
    (moment (below ++ g.L.Log.known c.logged_turn.new.log) (g.L.Log.is_clean c.logged_turn.new.log) (g.P.Port.told c.logged_turn.new.port))
    (IsNowOf mark viewers (below ++ g.L.Log.known c.args.log.now) (now.Hosting c.args.hosting)) (IsNowOf mark viewers (below ++ g.L.Log.known c.logged_turn.new.log) after))
    c.after_fault.ensures
    (λ mark viewers below. end-goes mark c.args.hosting.mark viewers below c.next-next.result.clock c.in-Err.fault (g.L.Log.is_clean c.args.log.now) (g.L.Log.is_clean c.logged_turn.new.log)
    (g.L.Log.known c.args.log.now) (g.L.Log.known c.logged_turn.new.log) (g.P.Port.told c.args.port.now) (g.P.Port.told c.logged_turn.new.port) c.args.hosting.part nobody
    (IsNowOf mark viewers (below ++ g.L.Log.known c.logged_turn.new.log) now.Behind) (tt, tt)
    c.in-Err.ensures.ended c.in-Err.ensures.clean (c.in-Err.ensures.shown viewers below))

pub returns-in-Err-clause-ended : goal.returns-in-Err-clause-ended
returns-in-Err-clause-ended g c =
    on-err c.after_fault.result
    (λ mark viewers below. end-goes mark c.args.hosting.mark viewers below c.next-next.result.clock c.in-Err.fault (g.L.Log.is_clean c.args.log.now) (g.L.Log.is_clean c.logged_turn.new.log)
    (g.L.Log.known c.args.log.now) (g.L.Log.known c.logged_turn.new.log) (g.P.Port.told c.args.port.now) (g.P.Port.told c.logged_turn.new.port) c.args.hosting.part nobody
    ⊤ tt
    c.in-Err.ensures.ended c.in-Err.ensures.clean (c.in-Err.ensures.shown viewers below))
