use Rattle.std.proofs.Common.{◌∙◌}
use Rattle.std.specs.Option.{option_map}
use Rattle.share_wire.specs.Decoding.{decoded}
use Rattle.laws_calls.proofs.Hosts.{packet}
use Rattle.laws_calls.proofs.Places.{twice}
use Rattle.laws_calls.proofs.host.host_packet.Goals as goal

pub returns : goal.returns
returns c =
    packet c.steps_law.ensures.calls c.args.host.now c.args.number (option_map (λ p. p.items) c.packet.result)
    (twice c.packet.result (λ p. p.items) decoded ∙ c.packet.ensures.again)
