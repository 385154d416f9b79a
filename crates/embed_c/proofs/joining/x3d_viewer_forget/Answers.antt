use Rattle.std.proofs.Common.{Some, ap, refl, ◌∙◌}
use Rattle.embed_world.specs.declared.viewer.EmbeddedViewer.{EmbeddedViewer}
use Rattle.embed_c.specs.NodeAnswers.{forgets, status_of_nothing}
use Rattle.embed_c.proofs.Called.{called}
use Rattle.embed_c.proofs.joining.x3d_viewer_forget.Goals as goal

pub returns : goal.returns
returns c =
    called forgets status_of_nothing _ _ _ c.deref_mut.result.now _ tt
    (ap (λ (x : EmbeddedViewer). Some x) c.deref_mut.ensures.value ∙ c.in-Some.ensures.taken)
    c.forget.ensures refl c.put.ensures
