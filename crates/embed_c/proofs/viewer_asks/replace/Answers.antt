use Rattle.std.proofs.Common.{Some, ap, ◌∙◌}
use Rattle.embed_world.specs.Viewers.{Replaces}
use Rattle.embed_world.specs.declared.viewer.EmbeddedViewer.{EmbeddedViewer}
use Rattle.embed_world.specs.Status.{status_of_place}
use Rattle.embed_c.proofs.Called.{called}
use Rattle.embed_c.proofs.viewer_asks.replace.Goals as goal

pub returns : goal.returns
returns c =
    called (λ (w : EmbeddedViewer). Replaces w c.args.k c.args.kind) status_of_place _ _ _ c.deref_mut.result.now _ _
    (ap (λ (w : EmbeddedViewer). Some w) c.deref_mut.ensures.value ∙ c.in-Some.ensures.taken)
    c.replace_script-answer.ensures c.status_of_place.ensures c.put.ensures
