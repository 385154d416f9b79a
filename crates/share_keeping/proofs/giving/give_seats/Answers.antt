use Rattle.std.proofs.Common.{rules, ◌≡◌, ◌∙◌, ap, refl, subst, true, take_all}
use Rattle.std.specs.Prelude.{Err}
use Rattle.share_logged.specs.Notes.{IsSentInTurn}
use Rattle.share_logged.proofs.Sent.{sent_none}
use Rattle.share_keeping.specs.Giving.{given}
use Rattle.share_keeping.proofs.Rows.{seats_lost, seats_more}
use Rattle.share_keeping.proofs.giving.give_seats.Goals as goal

pub loop-seat-init : goal.loop-seat-init
loop-seat-init g c = (sent_none (g.P.Port.told c.args.port.now), refl)

pub loop-seat-preserved : goal.loop-seat-preserved
loop-seat-preserved g c = (
  seats_more c.args.mark.now c.args.shot.now c.args.seats.now c.loop-seat.seat-index c.loop-seat-test.true
      (g.P.Port.told c.args.port.now) (g.P.Port.told c.loop-seat.port) (g.P.Port.told c.give_seat.new.port) c.loop-seat.invariant.0 c.in_ok-give_seat.ensures.sent,
  c.give_seat.ensures.time ∙ c.loop-seat.invariant.1,
)

pub returns-in_err-give_seat-clause-sent : goal.returns-in_err-give_seat-clause-sent
returns-in_err-give_seat-clause-sent g c =
    let failed : c.from_residual.result ≡ Err c.in_err-give_seat.field-0.0 = search rules in
    rw failed (seats_lost c.args.mark.now c.args.shot.now c.args.seats.now c.loop-seat.seat-index c.loop-seat-test.true
    (g.P.Port.told c.args.port.now) (g.P.Port.told c.loop-seat.port) (g.P.Port.told c.give_seat.new.port) c.loop-seat.invariant.0 c.in_err-give_seat.ensures.sent)

pub returns-in_err-give_seat-clause-time : goal.returns-in_err-give_seat-clause-time
returns-in_err-give_seat-clause-time g c = c.give_seat.ensures.time ∙ c.loop-seat.invariant.1

pub returns-clause-sent : goal.returns-clause-sent
returns-clause-sent g c =
    let l = c.loop-seat in
    let all = ap (given c.args.mark.now c.args.shot.now) (take_all l.seat-index c.args.seats.now (search rules)) in
    subst (IsSentInTurn true (g.P.Port.told c.args.port.now) (g.P.Port.told l.port)) all l.invariant.0

pub returns-clause-time : goal.returns-clause-time
returns-clause-time g c = c.loop-seat.invariant.1
