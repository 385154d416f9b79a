use Rattle.std.proofs.Common.{rules, ◌≡◌, inl, inr}
use Rattle.std.specs.Prelude.{Err}
use Rattle.share_turns.specs.declared.fault.TurnFault.TheVariants.{Port}
use Rattle.share_turns.proofs.give.give_turn.Goals as goal

pub returns-in_err-send_piece-clause-ended : goal.returns-in_err-send_piece-clause-ended
returns-in_err-send_piece-clause-ended g c =
    let failed : c.from_residual.result ≡ Err Port = search rules in
    rw failed (inl c.in_err-send_piece.ensures.sent)

pub returns-in_err-pass_over-clause-ended : goal.returns-in_err-pass_over-clause-ended
returns-in_err-pass_over-clause-ended g c =
    let failed : c.from_residual-in_err-pass_over.result ≡ Err c.in_err-pass_over.field-0.0 = search rules in
    let over = rw c.in_err-pass_over.ensures.fault at c.in_err-pass_over.ensures.over in
    rw failed (inr (g.P.Port.told c.send_piece.new.port, c.in_ok-send_piece.ensures.sent, over))

pub returns-clause-done : goal.returns-clause-done
returns-clause-done g c =
    (g.P.Port.told c.send_piece.new.port, c.in_ok-send_piece.ensures.sent, rw (← c.rest_behind.ensures.told) at c.in_ok-pass_over.ensures.over)
