use Rattle.std.proofs.Common.{Some, ap, ◌∙◌}
use Rattle.embed_world.specs.declared.viewer.EmbeddedViewer.{EmbeddedViewer}
use Rattle.embed_world.specs.Viewers as viewers
use Rattle.embed_world.specs.Status.{status_of_snap}
use Rattle.embed_world.specs.PeerStatus.{number_by, status_by}
use Rattle.embed_c.proofs.Called.{called_out}
use Rattle.embed_c.proofs.joining.x3d_viewer_rewind.Goals as goal

pub returns : goal.returns
returns c =
    called_out (λ (v : EmbeddedViewer). viewers.Rewinds v c.args.boot c.args.bytes.now) (status_by status_of_snap) number_by _ _ _ _ _ c.deref_mut.result.now _ _
    (ap (λ (x : EmbeddedViewer). Some x) c.deref_mut.ensures.value ∙ c.in-Some.ensures.taken)
    c.rewind-answer.ensures c.tell_rewound.ensures.status c.put.ensures c.tell_rewound.ensures.told
