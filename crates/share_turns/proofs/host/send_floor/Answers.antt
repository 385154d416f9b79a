use Rattle.share_turns.proofs.Sending.{are_sent_one}
use Rattle.share_turns.proofs.host.send_floor.Goals as goal

pub returns-clause-sent : goal.returns-clause-sent
returns-clause-sent g c =
    rw (← c.floor_packet.ensures.bytes)
    (rw (← c.as_slice.ensures.value) (are_sent_one c.send.result c.args.to (g.P.Port.told c.args.port.now) (g.P.Port.told c.send.new.self) c.as_slice.result.now c.send.ensures.ok c.send.ensures.err))
