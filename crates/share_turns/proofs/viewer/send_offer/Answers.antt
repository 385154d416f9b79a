use Rattle.std.specs.Prelude.{Some}
use Rattle.share_law.specs.Viewer.{viewer_resend}
use Rattle.share_turns.proofs.Sending.{are_sent_one, listed_packet}
use Rattle.share_turns.proofs.viewer.send_offer.Goals as goal

pub returns-in-Some-clause-sent : goal.returns-in-Some-clause-sent
returns-in-Some-clause-sent g c =
    let one = rw c.in-Some.is at c.resend.ensures.bytes in
    rw (listed_packet c.args.viewer.now.mark (viewer_resend c.args.viewer.now.who c.args.viewer.now.state 0) (Some c.in-Some.packet.items) one)
    (rw (← c.as_slice.ensures.value) (are_sent_one c.send.result c.args.host (g.P.Port.told c.args.port.now) (g.P.Port.told c.send.new.self) c.as_slice.result.now c.send.ensures.ok c.send.ensures.err))
