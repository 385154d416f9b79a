use Rattle.std.proofs.Common.{Some, ap, ◌∙◌}
use Rattle.embed_world.specs.Viewers.{Lists}
use Rattle.embed_world.specs.Looks as look
use Rattle.embed_world.specs.declared.viewer.EmbeddedViewer.{EmbeddedViewer}
use Rattle.embed_world.specs.Status.{status_of_look}
use Rattle.embed_c.proofs.Called.{called}
use Rattle.embed_c.proofs.routes.x3d_viewer_list_routes.Goals as goal

pub returns : goal.returns
returns c =
    called (λ (w : EmbeddedViewer). Lists (look.routes_listed w.viewer.routes) w) status_of_look _ _ _ c.deref_mut.result.now _ _
    (ap (λ (w : EmbeddedViewer). Some w) c.deref_mut.ensures.value ∙ c.in-Some.ensures.taken)
    c.list_routes-answer.ensures c.status_of_look.ensures c.put.ensures
