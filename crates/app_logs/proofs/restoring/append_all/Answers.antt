use Rattle.std.proofs.Common.{rules, ◌≤◌}
use Rattle.app_logs.proofs.Firsts.{added}
use Rattle.app_logs.proofs.restoring.append_all.Goals as goal

pub loop-frame-preserved : goal.loop-frame-preserved
loop-frame-preserved g c =
    let l = c.loop-frame in
    let up : l.stored ≤ c.min-end.result = search rules in
    record {
      within = search rules;
      some = search rules;
      known = λ clean. added (g.L.Log.known c.args.log.now) (g.L.Log.known l.log) (g.L.Log.known c.append_some.new.log) c.args.entries.now l.stored c.min-end.result up
          (l.invariant.known (c.append_some.ensures.clean clean)) (c.in_ok-append_some.ensures.stored clean);
      opened = search rules;
      clean = λ clean. l.invariant.clean (c.append_some.ensures.clean clean);
      lasts = λ last clean. c.append_some.ensures.lasts (l.invariant.lasts last (c.append_some.ensures.clean clean)) clean;
    }
