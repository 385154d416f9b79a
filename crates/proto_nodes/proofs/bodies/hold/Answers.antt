use Rattle.std.proofs.Common.{Some}
use Rattle.proto_parts.specs.Settled.{doing}
use Rattle.proto_nodes.specs.Shown.{shown}
use Rattle.proto_nodes.specs.declared.frames.Frame.TheVariants as frame
use Rattle.proto_nodes.specs.Does.{after, body_comes}
use Rattle.proto_nodes.specs.Frames.{frame_comes, held}
use Rattle.proto_nodes.proofs.Left.{hold-first, hold-more}
use Rattle.proto_nodes.proofs.NodeSteps.{goes-as}
use Rattle.proto_nodes.proofs.bodies.hold.Goals as goal

pub returns-in-None-clause-goes : goal.returns-in-None-clause-goes
returns-in-None-clause-goes c = λ ps. hold-first ps c.args.body c.args.number (shown c.args.walker.now) c.in-None.is

pub returns-in-Some-clause-goes : goal.returns-in-Some-clause-goes
returns-in-Some-clause-goes c =
    λ ps. goes-as ps (frame_comes ps (frame.Body c.args.body) c.args.number (shown c.args.walker.now))
    (after (doing (held (Some c.in-Some.first) c.args.number) (shown c.args.walker.now)) (body_comes ps c.args.body.around.value c.args.body.rest.now)) c.help.result (shown c.help.new.walker)
    (hold-more ps c.args.body c.in-Some.first c.args.number (shown c.args.walker.now) c.in-Some.is) (c.help.ensures.goes ps)
