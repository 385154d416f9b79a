use Rattle.std.proofs.Common.{◌≡◌, ◌∙◌, sym, arith}
use Rattle.share_turns.specs.Runs.{hosting}
use Rattle.share_turns.specs.Told.{passed}
use Rattle.app_logs.specs.Clocks.{first_due}
use Rattle.app_logs.specs.Hosting.{moment}
use Rattle.app_logs.proofs.Running.{turned_in_vain, turned_more}
use Rattle.app_logs.proofs.hosting.log_run.Goals as goal

pub loop-turn-preserved : goal.loop-turn-preserved
loop-turn-preserved g c =
    let so_far = c.loop-turn.invariant in
    let here = c.in_ok-current.ensures in
    let going = sym c.is_over.ensures ∙ c.if-is_over.false in
    let turn = rw (so_far.1, c.next_clock-clock.ensures, c.item_at-job.ensures) at here.done in
    let due = rw (c.item_at-job.ensures) at c.next_due-due.ensures in (
      turned_more c.args.hosting.mark c.args.clocks.now c.args.plan.now c.loop-turn.turn
          (moment (hosting c.args.hosting.part c.args.hosting.attendance) (first_due c.args.plan.now.beat.every) (g.L.Log.known c.args.log.now) (g.L.Log.is_clean c.args.log.now)
          (passed (g.P.Port.told c.args.port.now) (g.P.Port.rested c.args.port.now)))
          (moment (hosting c.loop-turn.current.part c.loop-turn.current.attendance) c.loop-turn.due (g.L.Log.known c.loop-turn.log) (g.L.Log.is_clean c.loop-turn.log)
          (passed (g.P.Port.told c.loop-turn.port) (g.P.Port.rested c.loop-turn.port)))
          (moment (hosting c.in_ok-current.current.part c.in_ok-current.current.attendance) c.next_due-due.result (g.L.Log.known c.taken_turn.new.log) (g.L.Log.is_clean c.taken_turn.new.log)
          (passed (g.P.Port.told c.taken_turn.new.port) (g.P.Port.rested c.taken_turn.new.port)))
          so_far.0 going (turn, due),
      here.mark ∙ so_far.1,
      here.failures ∙ so_far.2,
      here.open,
      λ last clean. here.lasts (so_far.4 last (here.clean clean)) clean,
    )

pub returns-in_err-current-clause-lasts : goal.returns-in_err-current-clause-lasts
returns-in_err-current-clause-lasts g c = λ last clean.
    let before = c.loop-turn.invariant.4 last (c.in_err-current.ensures.clean clean) in c.in_err-current.ensures.lasts before clean

pub returns-clause-ended : goal.returns-clause-ended
returns-clause-ended g c =
    let all : c.loop-turn.turn ≡ c.args.plan.now.turns = omega (arith, c.loop-turn-test.false) in
    turned_in_vain c.used_up.result c.args.hosting.mark c.args.clocks.now c.args.plan.now c.loop-turn.turn
    (moment (hosting c.args.hosting.part c.args.hosting.attendance) (first_due c.args.plan.now.beat.every) (g.L.Log.known c.args.log.now) (g.L.Log.is_clean c.args.log.now)
    (passed (g.P.Port.told c.args.port.now) (g.P.Port.rested c.args.port.now)))
    (moment (hosting c.loop-turn.current.part c.loop-turn.current.attendance) c.loop-turn.due (g.L.Log.known c.loop-turn.log) (g.L.Log.is_clean c.loop-turn.log)
    (passed (g.P.Port.told c.loop-turn.port) (g.P.Port.rested c.loop-turn.port)))
    all c.loop-turn.invariant.0 (sym c.is_over-over.ensures ∙ c.if-over.false) c.used_up.ensures.err
