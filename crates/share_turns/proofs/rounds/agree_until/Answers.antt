use Rattle.std.proofs.Common.{rules, ◌≡◌, false, ◌∙◌, arith}
use Rattle.std.specs.Prelude.{◌==◌, ◌&&◌, length, Err}
use Rattle.share_turns.specs.declared.fault.SeriesFault.TheVariants.{Turn}
use Rattle.share_turns.specs.Seats.{ways_of}
use Rattle.share_turns.specs.Round.{meeting}
use Rattle.share_turns.proofs.Meeting.{cut_round, goes_on, one_more_round}
use Rattle.share_turns.proofs.rounds.agree_until.Goals as goal

pub returns-in_err-round-clause-ended : goal.returns-in_err-round-clause-ended
returns-in_err-round-clause-ended g c =
    let ways = ways_of g.P.Port.told g.P.Port.failure_count in
    let old = meeting c.args.host.now.part c.args.port.now c.args.viewers.now c.args.ports.now in
    let mid = meeting c.loop-round.host.part c.loop-round.port c.loop-round.viewers c.loop-round.ports in
    let new = meeting c.round.new.host.part c.round.new.port c.round.new.viewers c.round.new.ports in
    let i = c.loop-round.invariant in
    let failed : c.from_residual.result ≡ Err (Turn c.in_err-round.field-0.0) = search rules in
    let over : c.is_over-over.result ≡ (c.is_caught_up-caught_up.result && (c.loop-round.issued == length c.args.steps.now)) = search rules in
    let ended : c.is_over-over.result ≡ false = search rules in
    let going = goes_on c.args.steps.now c.loop-round.issued mid c.is_caught_up-caught_up.result c.is_over-over.result c.is_caught_up-caught_up.ensures over ended in
    rw failed (cut_round ways c.args.host.now.mark c.loop-round.host.mark c.args.steps.now c.args.own c.args.rounds c.loop-round._round old mid new c.loop-round.issued
    c.in_err-round.field-0.0 c.is_caught_up-caught_up.result c.due-step.result (omega (arith, c.loop-round-test.true)) i.0 i.1 c.is_caught_up-caught_up.ensures c.due-step.ensures going c.in_err-round.ensures.ended)

pub loop-round-preserved : goal.loop-round-preserved
loop-round-preserved g c =
    let ways = ways_of g.P.Port.told g.P.Port.failure_count in
    let old = meeting c.args.host.now.part c.args.port.now c.args.viewers.now c.args.ports.now in
    let mid = meeting c.loop-round.host.part c.loop-round.port c.loop-round.viewers c.loop-round.ports in
    let new = meeting c.round.new.host.part c.round.new.port c.round.new.viewers c.round.new.ports in
    let i = c.loop-round.invariant in
    let over : c.is_over-over.result ≡ (c.is_caught_up-caught_up.result && (c.loop-round.issued == length c.args.steps.now)) = search rules in
    let ended : c.is_over-over.result ≡ false = search rules in
    let going = goes_on c.args.steps.now c.loop-round.issued mid c.is_caught_up-caught_up.result c.is_over-over.result c.is_caught_up-caught_up.ensures over ended in (
      one_more_round ways c.args.host.now.mark c.loop-round.host.mark c.args.steps.now c.args.own c.loop-round._round old mid new c.loop-round.issued c.one_more_if-issued.result
          c.in_ok-round.field-0 c.is_caught_up-caught_up.result c.due-step.result i.0 i.1 c.is_caught_up-caught_up.ensures c.due-step.ensures going c.in_ok-round.ensures.done c.one_more_if-issued.ensures.value,
      c.in_ok-round.ensures.mark ∙ i.1,
      c.in_ok-round.ensures.viewers ∙ i.2,
      c.in_ok-round.ensures.ports ∙ i.3,
      omega (arith, c.one_more_if-issued.ensures.most, i.4),
    )
