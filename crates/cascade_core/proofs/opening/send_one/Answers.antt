use Rattle.std.proofs.Common.{◌∙◌, ap, sym}
use Rattle.scene_core.specs.Scene.{shapes_of}
use Rattle.cascade_core.specs.Sound.{are_sent}
use Rattle.cascade_core.proofs.Openings.{replies_ready}
use Rattle.cascade_core.proofs.opening.send_one.Goals as goal

pub send_replies-requires-clause-ready : goal.send_replies-requires-clause-ready
send_replies-requires-clause-ready g c =
    let shapes = shapes_of c.args.routed.now.scene in
    replies_ready shapes _ _ (ap (are_sent shapes) c.sending.view_is ∙ c.requires.outputs)

pub returns-clause-course : goal.returns-clause-course
returns-clause-course g c = rw (sym c.sending.view_is) c.send_replies.ensures.course
