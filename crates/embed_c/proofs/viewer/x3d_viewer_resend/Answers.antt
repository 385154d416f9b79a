use Rattle.std.proofs.Common.{Some, ap, ◌∙◌}
use Rattle.embed_world.specs.declared.viewer.EmbeddedViewer.{EmbeddedViewer}
use Rattle.embed_world.specs.Viewers as viewers
use Rattle.embed_world.specs.Status.{no_packet}
use Rattle.embed_c.proofs.Called.{hands_out}
use Rattle.embed_c.proofs.viewer.x3d_viewer_resend.Goals as goal

pub returns-clause-packet : goal.returns-clause-packet
returns-clause-packet c =
    hands_out no_packet (λ (x : EmbeddedViewer). viewers.offer_bytes x c.args.place) _ _ _ _ _ _ c.deref.result.now _
    (ap (λ (x : EmbeddedViewer). Some x) c.deref.ensures ∙ c.in-Some.ensures.taken)
    c.resend-packet.ensures c.hand_out.ensures
