use Rattle.std.proofs.Common.{Some, ap, refl, ◌∙◌}
use Rattle.embed_world.specs.declared.host.EmbeddedHost.{EmbeddedHost}
use Rattle.embed_c.specs.NodeAnswers.{keeps, status_of_nothing}
use Rattle.embed_c.proofs.Called.{called}
use Rattle.embed_c.proofs.host.x3d_host_keep.Goals as goal

pub returns : goal.returns
returns c =
    called (keeps c.args.count) status_of_nothing _ _ _ c.deref_mut.result.now _ tt
    (ap (λ (x : EmbeddedHost). Some x) c.deref_mut.ensures.value ∙ c.in-Some.ensures.taken)
    c.keep.ensures refl c.put.ensures
