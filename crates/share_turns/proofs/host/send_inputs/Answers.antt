use Rattle.std.proofs.Common.{rules, ◌≡◌, true, refl, ◌∙◌, arith}
use Rattle.std.specs.Prelude.{Err}
use Rattle.share_turns.proofs.Sending.{are_sent_then, inputs_from-more, inputs_lost}
use Rattle.share_turns.proofs.host.send_inputs.Goals as goal

pub returns-in_err-send_input-clause-sent : goal.returns-in_err-send_input-clause-sent
returns-in_err-send_input-clause-sent g c =
    let i = c.loop-number.invariant in
    let failed : c.from_residual.result ≡ Err c.in_err-send_input.field-0.0 = search rules in
    rw c.in-Asked.is (rw failed (
    inputs_lost c.args.host.now.mark c.args.host.now.part c.in-Asked.first c.in-Asked.count c.loop-number.number c.args.to
    (g.P.Port.told c.args.port.now) (g.P.Port.told c.loop-number.port) (g.P.Port.told c.send_input.new.port)
    i.3 (omega (arith, c.loop-number-test.true)) i.0 c.in_err-send_input.ensures.sent))

pub loop-number-preserved : goal.loop-number-preserved
loop-number-preserved g c =
    let i = c.loop-number.invariant in
    let mark = c.args.host.now.mark in
    let host = c.args.host.now.part in
    let n = c.loop-number.number in (
      rw (inputs_from-more mark host c.in-Asked.first n i.3)
          (are_sent_then true c.args.to (g.P.Port.told c.args.port.now) (g.P.Port.told c.loop-number.port) (g.P.Port.told c.send_input.new.port) _ _ i.0 c.in_ok-send_input.ensures.sent),
      c.in_ok-send_input.ensures.failures ∙ i.1,
      c.in_ok-send_input.ensures.time ∙ i.2,
      omega (arith, i.3),
      refl,
      omega (arith, c.loop-number-test.true),
    )

pub returns-in-Below-clause-sent : goal.returns-in-Below-clause-sent
returns-in-Below-clause-sent g c = rw c.in-Below.is c.send_floor.ensures.sent
