use Rattle.std.proofs.Common.{rules, ◌≡◌, List, ◌++◌, ap, refl, sym, ◌∙◌}
use Rattle.std.specs.Prelude.{⊤}
use Rattle.share_entries.specs.Entry.{EntryView}
use Rattle.app_standby.specs.Origins.{IsNowFrom}
use Rattle.app_standby.specs.Steps.{Goes, moment}
use Rattle.app_standby.specs.declared.state.Now.TheVariants as now
use Rattle.app_standby.proofs.Going.{read-goes}
use Rattle.app_standby.proofs.Turns.{on-err}
use Rattle.app_standby.proofs.reading.read.Goals as goal

pub returns-in_err-hosting-in-Ok-clause-ended : goal.returns-in_err-hosting-in-Ok-clause-ended
returns-in_err-hosting-in-Ok-clause-ended g c =
    let o = c.args.origin.now in
    let known = g.L.Log.known c.args.log.now in
    on-err {A = (below : List EntryView)
    → Goes o.mark o.viewers (moment (below ++ known) (g.L.Log.is_clean c.args.log.now) (g.P.Port.told c.args.port.now))
    (moment (below ++ g.L.Log.known c.read_new.new.log) (g.L.Log.is_clean c.read_new.new.log) (g.P.Port.told c.args.port.now)) (IsNowFrom o below known c.args.now) ⊤} c.from_residual.result
    (λ below. read-goes o.mark o.viewers below known c.in-Ok.new.items (g.L.Log.known c.read_new.new.log) (g.L.Log.is_clean c.args.log.now)
    (g.L.Log.is_clean c.read_new.new.log) (g.P.Port.told c.args.port.now) (g.P.Port.told c.args.port.now) (IsNowFrom o below known c.args.now) ⊤ c.in-Ok.ensures.clean c.in-Ok.ensures.read refl
    (λ x w. tt))

pub returns-in_err-learn_new-in-Ok-clause-ended : goal.returns-in_err-learn_new-in-Ok-clause-ended
returns-in_err-learn_new-in-Ok-clause-ended g c =
    let o = c.args.origin.now in
    let known = g.L.Log.known c.args.log.now in
    on-err {A = (below : List EntryView)
    → Goes o.mark o.viewers (moment (below ++ known) (g.L.Log.is_clean c.args.log.now) (g.P.Port.told c.args.port.now))
    (moment (below ++ g.L.Log.known c.read_new.new.log) (g.L.Log.is_clean c.read_new.new.log) (g.P.Port.told c.learn_new.new.port)) (IsNowFrom o below known c.args.now) ⊤} c.from_residual-in_err-learn_new-in-Ok.result
    (λ below. read-goes o.mark o.viewers below known c.in-Ok.new.items (g.L.Log.known c.read_new.new.log) (g.L.Log.is_clean c.args.log.now)
    (g.L.Log.is_clean c.read_new.new.log) (g.P.Port.told c.args.port.now) (g.P.Port.told c.learn_new.new.port) (IsNowFrom o below known c.args.now) ⊤ c.in-Ok.ensures.clean c.in-Ok.ensures.read
    c.learn_new.ensures.told (λ x w. tt))

pub returns-in_ok-learn_new-in-Ok-clause-goes : goal.returns-in_ok-learn_new-in-Ok-clause-goes
returns-in_ok-learn_new-in-Ok-clause-goes g c =
    let o = c.args.origin.now in
    let known = g.L.Log.known c.args.log.now in
    let all = g.L.Log.known c.read_new.new.log in
    let items : c.deref.result.now ≡ c.in-Ok.new.items = search rules in
    λ below. read-goes o.mark o.viewers below known c.in-Ok.new.items all (g.L.Log.is_clean c.args.log.now) (g.L.Log.is_clean c.read_new.new.log) (g.P.Port.told c.args.port.now)
    (g.P.Port.told c.learn_new.new.port) (IsNowFrom o below known c.args.now) (IsNowFrom o below all (now.Hosting c.in_ok-hosting-in-Ok.hosting)) c.in-Ok.ensures.clean c.in-Ok.ensures.read
    c.learn_new.ensures.told
    (λ x w. (
      w.0,
      (
        c.in_ok-hosting-in-Ok.ensures.mark w.1.0,
        c.in_ok-hosting-in-Ok.ensures.log known below x (c.in-Ok.ensures.read x ∙ ap (λ (l : List EntryView). known ++ l) (sym items)) w,
      ),
    ))
