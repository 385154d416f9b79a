use Rattle.std.proofs.Common.{List, ℕ, ap, ◌∙◌}
use Rattle.std.specs.Prelude.{Option, Result, Ok}
use Rattle.std.specs.Option.{option_map}
use Rattle.share_wire.specs.Datagram.{datagram}
use Rattle.share_wire.specs.declared.fault.WireFault.{WireFault}
use Rattle.share_wire.specs.declared.message.Body.{Body}
use Rattle.share_wire.specs.declared.message.Message.{Message}
use Rattle.share_law.specs.Host.{input_packet}
use Rattle.share_law.specs.Parts.{part_packet}
use Rattle.share_core.specs.Host.{HostView}
use Rattle.share_core.proofs.Offers.{packet-entry}
use Rattle.share_core.proofs.host.Host.packet.Goals as goal

abbrev message_of : List ℕ → Body → Result Message WireFault
message_of mark body = Ok (record { mark = mark; body = body })

pub returns-clause-bytes : goal.returns-clause-bytes
returns-clause-bytes c =
    c.packet_of.ensures.bytes
    ∙ ap (λ (b : Option Body). option_map (λ body. datagram (record { mark = c.self.inside.mark; body = body })) b) (ap input_packet c.get.ensures ∙ packet-entry c.self.inside.inputs c.self.inside.kept.items c.args.number)
    ∙ ap (λ (v : HostView). option_map (λ body. datagram (record { mark = v.mark; body = body })) (part_packet v.part c.args.number)) c.self.view_is

pub returns-clause-again : goal.returns-clause-again
returns-clause-again c =
    c.packet_of.ensures.again
    ∙ ap (λ (b : Option Body). option_map (message_of c.self.inside.mark) b) (ap input_packet c.get.ensures ∙ packet-entry c.self.inside.inputs c.self.inside.kept.items c.args.number)
    ∙ ap (λ (v : HostView). option_map (message_of v.mark) (part_packet v.part c.args.number)) c.self.view_is
