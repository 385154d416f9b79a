use Rattle.std.specs.Prelude.{is_ok}
use Rattle.share_logged.proofs.Sent.{sent_none}
use Rattle.share_keeping.specs.Giving.{texts_for}
use Rattle.share_keeping.proofs.Rows.{seat_sent}
use Rattle.share_keeping.proofs.giving.give_seat.Goals as goal

pub returns-in-Some-clause-sent : goal.returns-in-Some-clause-sent
returns-in-Some-clause-sent g c =
    rw c.in-Some.is (seat_sent (is_ok c.give_row.result) c.in-Some.joiner.peer (g.P.Port.told c.args.port.now) (g.P.Port.told c.give_row.new.port) (texts_for c.args.mark.now c.args.shot.now c.in-Some.joiner) c.give_row.ensures.sent)

pub returns-in-None-clause-sent : goal.returns-in-None-clause-sent
returns-in-None-clause-sent g c = rw c.in-None.is (sent_none (g.P.Port.told c.args.port.now))
