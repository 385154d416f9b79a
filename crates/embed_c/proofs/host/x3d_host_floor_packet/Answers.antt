use Rattle.std.proofs.Common.{Some, ap, ◌∙◌}
use Rattle.embed_world.specs.declared.host.EmbeddedHost.{EmbeddedHost}
use Rattle.embed_world.specs.Hosts as hosts
use Rattle.embed_world.specs.Status.{no_packet}
use Rattle.embed_c.proofs.Called.{hands_out}
use Rattle.embed_c.proofs.host.x3d_host_floor_packet.Goals as goal

pub returns-clause-packet : goal.returns-clause-packet
returns-clause-packet c =
    hands_out no_packet (λ (x : EmbeddedHost). Some (hosts.floor_bytes x)) _ _ _ _ _ _ c.deref.result.now _
    (ap (λ (x : EmbeddedHost). Some x) c.deref.ensures ∙ c.in-Some.ensures.taken)
    c.floor_packet-packet.ensures c.hand_out.ensures
