use Rattle.std.proofs.Common.{Some, ap, ◌∙◌}
use Rattle.embed_world.specs.declared.host.EmbeddedHost.{EmbeddedHost}
use Rattle.embed_world.specs.Hosts as hosts
use Rattle.embed_world.specs.PeerStatus.{status_of_floor}
use Rattle.embed_c.proofs.Called.{called}
use Rattle.embed_c.proofs.host.x3d_host_drop_below.Goals as goal

pub returns : goal.returns
returns c =
    called (λ (h : EmbeddedHost). hosts.Drops h c.args.number) status_of_floor _ _ _ c.deref_mut.result.now _ _
    (ap (λ (x : EmbeddedHost). Some x) c.deref_mut.ensures.value ∙ c.in-Some.ensures.taken)
    c.drop_below-answer.ensures c.status_of_floor.ensures c.put.ensures
