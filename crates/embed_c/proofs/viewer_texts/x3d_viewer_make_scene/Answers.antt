use Rattle.std.proofs.Common.{Some, ap, ◌∙◌}
use Rattle.embed_world.specs.declared.viewer.EmbeddedViewer.{EmbeddedViewer}
use Rattle.embed_world.specs.Viewers.{Makes}
use Rattle.embed_world.specs.Looks as look
use Rattle.share_core.specs.Viewer.{stage_in}
use Rattle.embed_world.specs.Status.{status_of_look}
use Rattle.embed_c.proofs.Called.{called}
use Rattle.embed_c.proofs.viewer_texts.x3d_viewer_make_scene.Goals as goal

pub returns : goal.returns
returns c =
    called (λ (v : EmbeddedViewer). Makes (look.scene_now (stage_in v.viewer)) v) status_of_look _ _ _ c.deref_mut.result.now _ _
    (ap (λ (x : EmbeddedViewer). Some x) c.deref_mut.ensures.value ∙ c.in-Some.ensures.taken)
    c.make_scene-answer.ensures c.status_of_look.ensures c.put.ensures
