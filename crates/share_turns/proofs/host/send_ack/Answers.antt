use Rattle.std.proofs.Common.{arith}
use Rattle.share_turns.proofs.Sending.{acks_one, acks_past, are_sent_none, are_sent_one}
use Rattle.share_turns.proofs.host.send_ack.Goals as goal

pub returns-then-who-viewers-clause-sent : goal.returns-then-who-viewers-clause-sent
returns-then-who-viewers-clause-sent g c =
    rw c.in-Some.is (rw (acks_past c.args.host.now.mark c.args.host.now.part c.in-Some.who (omega (arith, c.if-who-viewers.true, c.viewers.ensures))) (are_sent_none c.args.to (g.P.Port.told c.args.port.now)))

pub returns-clause-sent : goal.returns-clause-sent
returns-clause-sent g c =
    rw c.in-Some.is (rw (acks_one c.args.host.now.mark c.args.host.now.part c.in-Some.who c.ack.result.items c.ack.ensures.bytes) (
    rw (← c.as_slice.ensures.value) (are_sent_one c.send.result c.args.to (g.P.Port.told c.args.port.now) (g.P.Port.told c.send.new.self) c.as_slice.result.now c.send.ensures.ok c.send.ensures.err)))
