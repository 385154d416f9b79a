use Rattle.std.specs.Prelude.{None, Some}
use Rattle.share_core.specs.Pieces.{count_of}
use Rattle.share_turns.specs.Gives.{piece_among}
use Rattle.share_turns.proofs.Sending.{are_sent_none, are_sent_one, listed_packet}
use Rattle.share_turns.proofs.give.send_piece.Goals as goal

pub returns-in-Some-clause-sent : goal.returns-in-Some-clause-sent
returns-in-Some-clause-sent g c =
    let one = rw (c.in-Some.is, c.piece_count.ensures) at c.packet_among.ensures in
    rw (listed_packet c.args.mark.now (piece_among (count_of c.args.bytes.now) c.args.bytes.now c.args.turn) (Some c.in-Some.packet.items) one)
    (rw (← c.as_slice.ensures.value) (are_sent_one c.send.result c.args.to (g.P.Port.told c.args.port.now) (g.P.Port.told c.send.new.self) c.as_slice.result.now c.send.ensures.ok c.send.ensures.err))

pub returns-in-None-clause-sent : goal.returns-in-None-clause-sent
returns-in-None-clause-sent g c =
    let none = rw (c.in-None.is, c.piece_count.ensures) at c.packet_among.ensures in
    rw (listed_packet c.args.mark.now (piece_among (count_of c.args.bytes.now) c.args.bytes.now c.args.turn) None none) (are_sent_none c.args.to (g.P.Port.told c.args.port.now))
