use Rattle.std.proofs.Common.{rules, ◌≡◌, ◌∙◌, sym, arith}
use Rattle.std.specs.Prelude.{Err}
use Rattle.share_turns.specs.declared.fault.SeriesFault.TheVariants.{Turn}
use Rattle.share_turns.specs.Runs.{HostTurnsEnd, hosting}
use Rattle.share_turns.specs.Told.{passed}
use Rattle.share_turns.proofs.Running.{hosted_all, hosted_in_vain, hosted_more, hosted_over, none_failed}
use Rattle.share_turns.proofs.runs.host_run.Goals as goal

pub loop-turn-preserved : goal.loop-turn-preserved
loop-turn-preserved g c =
    let going = sym c.is_over.ensures ∙ c.if-is_over.false in
    let turn = rw (c.loop-turn.invariant.1, c.item_at.ensures) at c.in_ok-kept_turn.ensures.done in (
      hosted_more c.args.host.now.mark c.args.clocks.now c.args.plan.now c.loop-turn.turn (passed (g.P.Port.told c.args.port.now) (g.P.Port.rested c.args.port.now)) (passed (g.P.Port.told c.loop-turn.port) (g.P.Port.rested c.loop-turn.port)) (passed (g.P.Port.told c.kept_turn.new.port) (g.P.Port.rested c.kept_turn.new.port))
          c.args.host.now.part (hosting c.loop-turn.host.part c.loop-turn.attendance) (hosting c.kept_turn.new.host.part c.kept_turn.new.attendance) c.loop-turn.invariant.0 going turn,
      c.in_ok-kept_turn.ensures.mark ∙ c.loop-turn.invariant.1,
      c.in_ok-kept_turn.ensures.failures ∙ c.loop-turn.invariant.2,
    )

pub returns-in_err-kept_turn-clause-ended : goal.returns-in_err-kept_turn-clause-ended
returns-in_err-kept_turn-clause-ended g c =
    let fault = c.in_err-kept_turn.field-0.0 in
    let failed : c.from_residual.result ≡ Err (Turn fault) = search rules in
    let end : HostTurnsEnd c.args.host.now.mark c.args.clocks.now c.args.plan.now c.args.turns (passed (g.P.Port.told c.args.port.now) (g.P.Port.rested c.args.port.now))
    (passed (g.P.Port.told c.kept_turn.new.port) (g.P.Port.rested c.kept_turn.new.port)) c.args.host.now.part fault c.kept_turn.new.host.part =
    record {
      done = c.loop-turn.turn;
      fewer = omega (arith, c.loop-turn-test.true);
      between = passed (g.P.Port.told c.loop-turn.port) (g.P.Port.rested c.loop-turn.port);
      mid = hosting c.loop-turn.host.part c.loop-turn.attendance;
      before = c.loop-turn.invariant.0;
      going = sym c.is_over.ensures ∙ c.if-is_over.false;
      last = rw (c.loop-turn.invariant.1, c.item_at.ensures) at c.in_err-kept_turn.ensures.ended;
      rested = c.in_err-kept_turn.ensures.time;
    } in
    rw failed end

pub returns-then-is_over-clause-done : goal.returns-then-is_over-clause-done
returns-then-is_over-clause-done g c =
    hosted_over c.args.host.now.mark c.args.clocks.now c.args.plan.now c.loop-turn.turn c.args.turns (passed (g.P.Port.told c.args.port.now) (g.P.Port.rested c.args.port.now)) (passed (g.P.Port.told c.loop-turn.port) (g.P.Port.rested c.loop-turn.port))
    c.args.host.now.part c.loop-turn.host.part c.loop-turn.attendance (omega (arith, c.loop-turn-test.true)) c.loop-turn.invariant.0 (sym c.is_over.ensures ∙ c.if-is_over.true)

pub returns-then-is_over-2-clause-done : goal.returns-then-is_over-2-clause-done
returns-then-is_over-2-clause-done g c =
    hosted_over c.args.host.now.mark c.args.clocks.now c.args.plan.now c.loop-turn.turn c.args.turns (passed (g.P.Port.told c.args.port.now) (g.P.Port.rested c.args.port.now)) (passed (g.P.Port.told c.loop-turn.port) (g.P.Port.rested c.loop-turn.port))
    c.args.host.now.part c.loop-turn.host.part c.loop-turn.attendance (omega (arith, c.loop-turn-test.false)) c.loop-turn.invariant.0 (sym c.is_over-2.ensures ∙ c.if-is_over-2.true)

pub returns-clause-done : goal.returns-clause-done
returns-clause-done g c =
    let all : c.loop-turn.turn ≡ c.args.turns = omega (arith, c.loop-turn-test.false) in
    hosted_all c.used_up.result c.args.host.now.mark c.args.clocks.now c.args.plan.now c.loop-turn.turn c.args.turns (passed (g.P.Port.told c.args.port.now) (g.P.Port.rested c.args.port.now)) (passed (g.P.Port.told c.loop-turn.port) (g.P.Port.rested c.loop-turn.port))
    c.args.host.now.part c.loop-turn.host.part c.loop-turn.attendance all c.loop-turn.invariant.0 c.used_up.ensures.ok

pub returns-clause-ended : goal.returns-clause-ended
returns-clause-ended g c =
    let all : c.loop-turn.turn ≡ c.args.turns = omega (arith, c.loop-turn-test.false) in
    hosted_in_vain c.used_up.result c.args.host.now.mark c.args.clocks.now c.args.plan.now c.loop-turn.turn c.args.turns (passed (g.P.Port.told c.args.port.now) (g.P.Port.rested c.args.port.now)) (passed (g.P.Port.told c.loop-turn.port) (g.P.Port.rested c.loop-turn.port))
    c.args.host.now.part c.loop-turn.host.part c.loop-turn.attendance all c.loop-turn.invariant.0 (sym c.is_over-2.ensures ∙ c.if-is_over-2.false) c.used_up.ensures.err

pub returns-clause-failures : goal.returns-clause-failures
returns-clause-failures g c =
    none_failed c.used_up.result c.args.plan.now (g.P.Port.failure_count c.args.port.now) (g.P.Port.failure_count c.loop-turn.port) c.used_up.ensures.err c.loop-turn.invariant.2
