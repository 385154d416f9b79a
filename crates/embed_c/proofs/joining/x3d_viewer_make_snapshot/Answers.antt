use Rattle.std.proofs.Common.{Some, ap, ◌∙◌}
use Rattle.embed_world.specs.declared.viewer.EmbeddedViewer.{EmbeddedViewer}
use Rattle.embed_world.specs.Viewers as viewers
use Rattle.embed_world.specs.Status.{status_of_save}
use Rattle.embed_c.proofs.Called.{called}
use Rattle.embed_c.proofs.joining.x3d_viewer_make_snapshot.Goals as goal

pub returns : goal.returns
returns c =
    called (λ (v : EmbeddedViewer). viewers.Saves v) status_of_save _ _ _ c.deref_mut.result.now _ _
    (ap (λ (x : EmbeddedViewer). Some x) c.deref_mut.ensures.value ∙ c.in-Some.ensures.taken)
    c.make_snapshot-answer.ensures c.status_of_save.ensures c.put.ensures
