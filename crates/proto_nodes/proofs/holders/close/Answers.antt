use Rattle.std.proofs.Common.{◌∙◌, ap}
use Rattle.proto_parts.specs.Settled.{doing}
use Rattle.proto_nodes.specs.Shown.{shown}
use Rattle.proto_nodes.specs.Does.{inside_now, open_does}
use Rattle.proto_nodes.specs.Frames.{holder_comes}
use Rattle.proto_nodes.proofs.NodeSteps.{goes-as}
use Rattle.proto_nodes.proofs.Left.{body-on}
use Rattle.proto_nodes.proofs.Waiting.{braces-come, defaults-come}
use Rattle.proto_nodes.proofs.holders.close.Goals as goal

pub returns-in-Braces-clause-goes : goal.returns-in-Braces-clause-goes
returns-in-Braces-clause-goes c =
    λ ps k. goes-as ps (holder_comes ps c.args.holder (shown c.args.walker.now)) (doing (open_does ps c.in-Braces.opened (inside_now ps c.in-Braces.opened)) (shown c.args.walker.now)) c.close_braces.result (shown c.close_braces.new.walker)
    (ap (λ h. holder_comes ps h (shown c.args.walker.now)) c.in-Braces.is ∙ braces-come ps c.in-Braces.opened (shown c.args.walker.now))
    (c.close_braces.ensures.goes ps k)

pub returns-in-Defaults-clause-goes : goal.returns-in-Defaults-clause-goes
returns-in-Defaults-clause-goes c =
    λ ps k. body-on ps c.begin_body.result (holder_comes ps c.args.holder (shown c.args.walker.now)) (shown c.begin_body.new.walker)
    (ap (λ h. holder_comes ps h (shown c.args.walker.now)) c.in-Defaults.is ∙ defaults-come ps c.in-Defaults.filling (shown c.args.walker.now) ∙ c.begin_body.ensures.goes ps)
