use Rattle.std.proofs.Common.{subst}
use Rattle.embed_world.specs.Viewers as viewers
use Rattle.embed_world.specs.declared.viewer.EmbeddedViewer.{EmbeddedViewer}
use Rattle.x3d_values.specs.declared.pointing.Point.{Point}
use Rattle.embed_world.specs.Status.{CallsOut}
use Rattle.embed_world.specs.PeerStatus.{number_by, status_by, status_of_offer}
use Rattle.embed_c.proofs.viewer.x3d_viewer_offer.Goals as goal

pub returns : goal.returns
returns c =
    subst (λ (p : Point). CallsOut (λ (v : EmbeddedViewer). viewers.Offers v p) (status_by status_of_offer) number_by
    c.args.handle.now.viewer c.offer.result c.offer.new.handle.viewer c.args.number.now c.offer.new.number)
    c.aimed_point-point.ensures c.offer.ensures
