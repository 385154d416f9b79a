use Rattle.std.specs.Prelude.{Some}
use Rattle.share_core.specs.Pieces.{piece_of}
use Rattle.share_turns.proofs.Sending.{are_sent_one, listed_packet}
use Rattle.share_keeping.proofs.giving.give_piece.Goals as goal

pub returns-in-Some-clause-sent : goal.returns-in-Some-clause-sent
returns-in-Some-clause-sent g c =
    rw (listed_packet c.args.mark.now (piece_of c.args.bytes.now c.args.number) (Some c.in-Some.packet.items) c.in-Some.ensures.bytes)
    (rw (← c.as_slice.ensures.value) (are_sent_one c.send.result c.args.to (g.P.Port.told c.args.port.now) (g.P.Port.told c.send.new.self) c.as_slice.result.now c.send.ensures.ok c.send.ensures.err))
