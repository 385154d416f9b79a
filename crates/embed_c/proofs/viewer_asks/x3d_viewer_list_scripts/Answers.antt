use Rattle.std.proofs.Common.{Some, ap, ◌∙◌}
use Rattle.embed_world.specs.declared.viewer.EmbeddedViewer.{EmbeddedViewer}
use Rattle.embed_world.specs.Viewers.{Lists}
use Rattle.embed_world.specs.Looks as look
use Rattle.embed_world.specs.Status.{status_of_look}
use Rattle.embed_c.proofs.Called.{called}
use Rattle.embed_c.proofs.viewer_asks.x3d_viewer_list_scripts.Goals as goal

pub returns : goal.returns
returns c =
    called (λ (v : EmbeddedViewer). Lists (look.scripts_listed v.viewer.scene) v) status_of_look _ _ _ c.deref_mut.result.now _ _
    (ap (λ (x : EmbeddedViewer). Some x) c.deref_mut.ensures.value ∙ c.in-Some.ensures.taken)
    c.list_scripts-answer.ensures c.status_of_look.ensures c.put.ensures
