use Rattle.std.proofs.Common.{List, ℕ, ◌++◌, subst, sym}
use Rattle.std.specs.Prelude.{IfOk, OnErr, ⊤}
use Rattle.share_entries.specs.Entry.{EntryView}
use Rattle.app_standby.specs.State.{IsNowOf}
use Rattle.app_standby.specs.Steps.{Goes, moment}
use Rattle.app_standby.specs.declared.state.Now.{Now}
use Rattle.app_standby.proofs.turning.act.Goals as goal

pub returns-then-takes_appends-clause-goes : goal.returns-then-takes_appends-clause-goes
returns-then-takes_appends-clause-goes g c =
    subst (λ (n : Now). IfOk c.turn.result (λ after. (mark : List ℕ) (viewers : ℕ) (below : List EntryView)
    → Goes mark viewers (moment (below ++ g.L.Log.known c.args.log.now) (g.L.Log.is_clean c.args.log.now) (g.P.Port.told c.args.port.now))
    (moment (below ++ g.L.Log.known c.turn.new.log) (g.L.Log.is_clean c.turn.new.log) (g.P.Port.told c.turn.new.port))
    (IsNowOf mark viewers (below ++ g.L.Log.known c.args.log.now) n) (IsNowOf mark viewers (below ++ g.L.Log.known c.turn.new.log) after)))
    (sym c.in-Hosting.is) c.turn.ensures.goes

pub returns-then-takes_appends-clause-ended : goal.returns-then-takes_appends-clause-ended
returns-then-takes_appends-clause-ended g c =
    subst (λ (n : Now). OnErr c.turn.result ((mark : List ℕ) (viewers : ℕ) (below : List EntryView)
    → Goes mark viewers (moment (below ++ g.L.Log.known c.args.log.now) (g.L.Log.is_clean c.args.log.now) (g.P.Port.told c.args.port.now))
    (moment (below ++ g.L.Log.known c.turn.new.log) (g.L.Log.is_clean c.turn.new.log) (g.P.Port.told c.turn.new.port))
    (IsNowOf mark viewers (below ++ g.L.Log.known c.args.log.now) n) ⊤))
    (sym c.in-Hosting.is) c.turn.ensures.ended
