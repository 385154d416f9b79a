use Rattle.std.proofs.Common.{Some, ap, ◌∙◌}
use Rattle.embed_world.specs.declared.host.EmbeddedHost.{EmbeddedHost}
use Rattle.embed_world.specs.Hosts as hosts
use Rattle.embed_world.specs.PeerStatus.{replied, status_by, status_of_host}
use Rattle.embed_c.proofs.Called.{called_out}
use Rattle.embed_c.proofs.host.x3d_host_take_from.Goals as goal

pub returns : goal.returns
returns c =
    called_out (λ (h : EmbeddedHost). hosts.HostTakesFrom h c.args.who c.args.bytes.now) (status_by status_of_host) replied _ _ _ _ _ c.deref_mut.result.now _ _
    (ap (λ (x : EmbeddedHost). Some x) c.deref_mut.ensures.value ∙ c.in-Some.ensures.taken)
    c.take_from-answer.ensures c.tell_reply.ensures.status c.put.ensures c.tell_reply.ensures.told
