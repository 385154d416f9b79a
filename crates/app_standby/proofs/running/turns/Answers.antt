use Rattle.std.proofs.Common.{[], ◌++◌}
use Rattle.std.specs.Prelude.{⊤}
use Rattle.app_standby.specs.Origins.{IsBelow, IsNowFrom}
use Rattle.app_standby.specs.State.{IsNowOf}
use Rattle.app_standby.specs.Steps.{Moment, moment}
use Rattle.app_standby.specs.declared.state.Now.TheVariants as now
use Rattle.app_standby.proofs.Going.{goes-beside, goes-over, goes-then, goes-under}
use Rattle.app_standby.proofs.running.turns.Goals as goal

pub returns-in_err-kept-clause-goes : goal.returns-in_err-kept-clause-goes
returns-in_err-kept-clause-goes g c = λ below.
    let o = c.args.origin.now in
    let l = c.loop-turn in
    let a : Moment = moment (below ++ g.L.Log.known c.args.log.now) (g.L.Log.is_clean c.args.log.now) (g.P.Port.told c.args.port.now) in
    let b : Moment = moment (below ++ g.L.Log.known l.log) (g.L.Log.is_clean l.log) (g.P.Port.told l.port) in
    let m : Moment = moment (below ++ g.L.Log.known c.keep_up.new.log) (g.L.Log.is_clean c.keep_up.new.log) (g.P.Port.told c.keep_up.new.port) in
    let was = IsNowFrom o below (g.L.Log.known c.args.log.now) (now.Hosting c.args.hosting) in
    goes-then o.mark o.viewers a b m was (IsNowFrom o below (g.L.Log.known l.log) l.now) ⊤ (l.invariant.goes below) (c.in_err-kept.ensures.ended below)

pub returns-in_err-kept-clause-lasts : goal.returns-in_err-kept-clause-lasts
returns-in_err-kept-clause-lasts g c = λ last clean.
    let before = (c.in_err-kept.ensures.ended []).clean clean in
    c.in_err-kept.ensures.lasts (c.loop-turn.invariant.lasts last before) clean

pub returns-in_err-now-clause-goes : goal.returns-in_err-now-clause-goes
returns-in_err-now-clause-goes g c = λ below.
    let o = c.args.origin.now in
    let l = c.loop-turn in
    let a : Moment = moment (below ++ g.L.Log.known c.args.log.now) (g.L.Log.is_clean c.args.log.now) (g.P.Port.told c.args.port.now) in
    let b : Moment = moment (below ++ g.L.Log.known l.log) (g.L.Log.is_clean l.log) (g.P.Port.told l.port) in
    let m : Moment = moment (below ++ g.L.Log.known c.keep_up.new.log) (g.L.Log.is_clean c.keep_up.new.log) (g.P.Port.told c.keep_up.new.port) in
    let n : Moment = moment (below ++ g.L.Log.known c.act.new.log) (g.L.Log.is_clean c.act.new.log) (g.P.Port.told c.act.new.port) in
    let was = IsNowFrom o below (g.L.Log.known c.args.log.now) (now.Hosting c.args.hosting) in
    let mid = IsNowFrom o below (g.L.Log.known c.keep_up.new.log) c.in_ok-kept.kept in
    goes-then o.mark o.viewers a m n was mid ⊤
    (goes-then o.mark o.viewers a b m was (IsNowFrom o below (g.L.Log.known l.log) l.now) mid (l.invariant.goes below) (c.in_ok-kept.ensures.goes below))
    (goes-under o.mark o.viewers m n (IsBelow o.viewers o.base below) (IsNowOf o.mark o.viewers (below ++ g.L.Log.known c.keep_up.new.log) c.in_ok-kept.kept) ⊤
    (c.in_err-now.ensures.ended o.mark o.viewers below))

pub returns-in_err-now-clause-lasts : goal.returns-in_err-now-clause-lasts
returns-in_err-now-clause-lasts g c = λ last clean.
    let before = (c.in_err-now.ensures.ended [] 0 []).clean clean in
    let first = (c.in_ok-kept.ensures.goes []).clean before in
    c.in_err-now.ensures.lasts (c.in_ok-kept.ensures.lasts (c.loop-turn.invariant.lasts last first) before) clean

pub loop-turn-preserved : goal.loop-turn-preserved
loop-turn-preserved g c =
    let o = c.args.origin.now in
    let l = c.loop-turn in
    record {
      goes = λ below.
          let a : Moment = moment (below ++ g.L.Log.known c.args.log.now) (g.L.Log.is_clean c.args.log.now) (g.P.Port.told c.args.port.now) in
          let b : Moment = moment (below ++ g.L.Log.known l.log) (g.L.Log.is_clean l.log) (g.P.Port.told l.port) in
          let m : Moment = moment (below ++ g.L.Log.known c.keep_up.new.log) (g.L.Log.is_clean c.keep_up.new.log) (g.P.Port.told c.keep_up.new.port) in
          let n : Moment = moment (below ++ g.L.Log.known c.act.new.log) (g.L.Log.is_clean c.act.new.log) (g.P.Port.told c.act.new.port) in
          let was = IsNowFrom o below (g.L.Log.known c.args.log.now) (now.Hosting c.args.hosting) in
          let mid = IsNowFrom o below (g.L.Log.known c.keep_up.new.log) c.in_ok-kept.kept in
          goes-then o.mark o.viewers a m n was mid (IsNowFrom o below (g.L.Log.known c.act.new.log) c.in_ok-now.now)
          (goes-then o.mark o.viewers a b m was (IsNowFrom o below (g.L.Log.known l.log) l.now) mid (l.invariant.goes below) (c.in_ok-kept.ensures.goes below))
          (goes-beside o.mark o.viewers m n (IsBelow o.viewers o.base below) (IsNowOf o.mark o.viewers (below ++ g.L.Log.known c.keep_up.new.log) c.in_ok-kept.kept)
          (IsNowOf o.mark o.viewers (below ++ g.L.Log.known c.act.new.log) c.in_ok-now.now) (c.in_ok-now.ensures.goes o.mark o.viewers below));
      lasts = λ last clean.
          let before = (c.in_ok-now.ensures.goes [] 0 []).clean clean in
          let first = (c.in_ok-kept.ensures.goes []).clean before in
          c.in_ok-now.ensures.lasts (c.in_ok-kept.ensures.lasts (l.invariant.lasts last first) before) clean;
    }

pub returns-then-is_over-clause-goes : goal.returns-then-is_over-clause-goes
returns-then-is_over-clause-goes g c = λ below.
    let o = c.args.origin.now in
    let l = c.loop-turn in
    let a : Moment = moment (below ++ g.L.Log.known c.args.log.now) (g.L.Log.is_clean c.args.log.now) (g.P.Port.told c.args.port.now) in
    let b : Moment = moment (below ++ g.L.Log.known l.log) (g.L.Log.is_clean l.log) (g.P.Port.told l.port) in
    let was = IsNowFrom o below (g.L.Log.known c.args.log.now) (now.Hosting c.args.hosting) in
    goes-over o.mark o.viewers a b was (IsNowFrom o below (g.L.Log.known l.log) l.now) (l.invariant.goes below)

pub returns-then-over-clause-goes : goal.returns-then-over-clause-goes
returns-then-over-clause-goes g c = λ below.
    let o = c.args.origin.now in
    let l = c.loop-turn in
    let a : Moment = moment (below ++ g.L.Log.known c.args.log.now) (g.L.Log.is_clean c.args.log.now) (g.P.Port.told c.args.port.now) in
    let b : Moment = moment (below ++ g.L.Log.known l.log) (g.L.Log.is_clean l.log) (g.P.Port.told l.port) in
    let was = IsNowFrom o below (g.L.Log.known c.args.log.now) (now.Hosting c.args.hosting) in
    goes-over o.mark o.viewers a b was (IsNowFrom o below (g.L.Log.known l.log) l.now) (l.invariant.goes below)

pub returns-clause-goes : goal.returns-clause-goes
returns-clause-goes g c = λ below.
    let o = c.args.origin.now in
    let l = c.loop-turn in
    let a : Moment = moment (below ++ g.L.Log.known c.args.log.now) (g.L.Log.is_clean c.args.log.now) (g.P.Port.told c.args.port.now) in
    let b : Moment = moment (below ++ g.L.Log.known l.log) (g.L.Log.is_clean l.log) (g.P.Port.told l.port) in
    let was = IsNowFrom o below (g.L.Log.known c.args.log.now) (now.Hosting c.args.hosting) in
    goes-over o.mark o.viewers a b was (IsNowFrom o below (g.L.Log.known l.log) l.now) (l.invariant.goes below)
