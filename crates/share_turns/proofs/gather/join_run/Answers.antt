use Rattle.std.proofs.Common.{rules, ◌≡◌, refl, arith}
use Rattle.std.specs.Prelude.{Err}
use Rattle.share_turns.proofs.Gathering.{join_cut}
use Rattle.share_turns.proofs.gather.join_run.Goals as goal

pub loop-turn-init : goal.loop-turn-init
loop-turn-init g c = ((refl, refl), refl, refl)

pub returns-in_err-gather_turn-clause-ended : goal.returns-in_err-gather_turn-clause-ended
returns-in_err-gather_turn-clause-ended g c =
    let failed : c.from_residual.result ≡ Err c.in_err-gather_turn.field-0.0 = search rules in
    rw failed (join_cut c.args.viewer.now c.loop-turn.viewer c.args.boot c.loop-turn.turn c.args.turns (g.P.Port.told c.args.port.now) (g.P.Port.told c.loop-turn.port) (g.P.Port.told c.gather_turn.new.port)
    c.in_err-gather_turn.field-0.0 c.gather_turn.new.viewer.state c.gather_turn.new.viewer.gathering (omega (arith, c.loop-turn-test.true)) c.loop-turn.invariant.1 c.loop-turn.invariant.0 c.in_err-gather_turn.ensures.turn)
