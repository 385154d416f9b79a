use Rattle.std.proofs.Common.{Some, ap, ◌∙◌}
use Rattle.embed_world.specs.declared.host.EmbeddedHost.{EmbeddedHost}
use Rattle.embed_world.specs.Hosts as hosts
use Rattle.embed_world.specs.Status.{out_of_range}
use Rattle.embed_c.proofs.Called.{hands_out}
use Rattle.embed_c.proofs.host.x3d_host_ack.Goals as goal

pub returns-clause-packet : goal.returns-clause-packet
returns-clause-packet c =
    hands_out out_of_range (λ (x : EmbeddedHost). hosts.ack_bytes x c.args.who) _ _ _ _ _ _ c.deref.result.now _
    (ap (λ (x : EmbeddedHost). Some x) c.deref.ensures ∙ c.in-Some.ensures.taken)
    c.ack-packet.ensures c.hand_out.ensures
