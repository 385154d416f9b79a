use Rattle.std.proofs.Common.{FitsSigned, Some, ap, rules, w64, ◌∙◌}
use Rattle.std.proofs.lemmas.Int.{to_z-of_z}
use Rattle.embed_world.specs.declared.host.EmbeddedHost.{EmbeddedHost}
use Rattle.embed_world.specs.Hosts as hosts
use Rattle.embed_world.specs.PeerStatus.{number_by, status_by, status_of_number}
use Rattle.embed_c.proofs.Called.{called_out}
use Rattle.embed_c.proofs.host.x3d_host_clock.Goals as goal

pub returns : goal.returns
returns c =
    let fits : FitsSigned w64 c.args.time = search rules in
    called_out (λ (h : EmbeddedHost). hosts.Clocks h c.args.time) (status_by status_of_number) number_by _ _ _ _ _ c.deref_mut.result.now _ _
    (ap (λ (x : EmbeddedHost). Some x) c.deref_mut.ensures.value ∙ c.in-Some.ensures.taken)
    (rw (to_z-of_z w64 c.args.time fits) at c.clock-answer.ensures) c.tell_number.ensures.status c.put.ensures c.tell_number.ensures.told
