use Rattle.std.specs.Prelude.{Some, None}
use Rattle.share_law.specs.Parts.{part_packet}
use Rattle.share_turns.proofs.Sending.{are_sent_none, are_sent_one, listed_packet}
use Rattle.share_turns.proofs.host.send_input.Goals as goal

pub returns-in-Some-clause-sent : goal.returns-in-Some-clause-sent
returns-in-Some-clause-sent g c =
    let one = rw c.in-Some.is at c.packet.ensures.bytes in
    rw (listed_packet c.args.host.now.mark (part_packet c.args.host.now.part c.args.number) (Some c.in-Some.packet.items) one)
    (rw (← c.as_slice.ensures.value) (are_sent_one c.send.result c.args.to (g.P.Port.told c.args.port.now) (g.P.Port.told c.send.new.self) c.as_slice.result.now c.send.ensures.ok c.send.ensures.err))

pub returns-in-None-clause-sent : goal.returns-in-None-clause-sent
returns-in-None-clause-sent g c =
    let none = rw c.in-None.is at c.packet.ensures.bytes in
    rw (listed_packet c.args.host.now.mark (part_packet c.args.host.now.part c.args.number) None none) (are_sent_none c.args.to (g.P.Port.told c.args.port.now))
