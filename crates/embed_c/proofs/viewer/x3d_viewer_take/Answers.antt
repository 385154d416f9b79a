use Rattle.std.proofs.Common.{Some, ap, ◌∙◌}
use Rattle.embed_world.specs.declared.viewer.EmbeddedViewer.{EmbeddedViewer}
use Rattle.embed_world.specs.Viewers as viewers
use Rattle.embed_world.specs.PeerStatus.{status_by, status_of_take, taken_by}
use Rattle.embed_c.proofs.Called.{called_out}
use Rattle.embed_c.proofs.viewer.x3d_viewer_take.Goals as goal

pub returns : goal.returns
returns c =
    called_out (λ (v : EmbeddedViewer). viewers.Takes v c.args.bytes.now) (status_by status_of_take) taken_by _ _ _ _ _ c.deref_mut.result.now _ _
    (ap (λ (x : EmbeddedViewer). Some x) c.deref_mut.ensures.value ∙ c.in-Some.ensures.taken)
    c.take-answer.ensures c.tell_taken.ensures.status c.put.ensures c.tell_taken.ensures.told
