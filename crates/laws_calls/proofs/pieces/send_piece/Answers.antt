use Rattle.std.proofs.Common.{◌≡◌, ◌∙◌, length, rules}
use Rattle.std.specs.Option.{option_map}
use Rattle.share_wire.specs.Decoding.{decoded}
use Rattle.laws_calls.proofs.Places.{twice}
use Rattle.laws_calls.proofs.Saving.{piece}
use Rattle.laws_calls.proofs.pieces.send_piece.Goals as goal

pub returns : goal.returns
returns c =
    let long : length c.args.mark ≡ 32 = search rules in
    piece c.steps_law.ensures.calls c.args.mark c.args.bytes.now c.args.index (option_map (λ p. p.items) c.piece_packet.result) long
    (twice c.piece_packet.result (λ p. p.items) decoded ∙ c.piece_packet.ensures.again)
