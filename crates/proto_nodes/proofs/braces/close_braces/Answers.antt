use Rattle.std.proofs.Common.{◌∙◌}
use Rattle.proto_parts.specs.Settled.{doing}
use Rattle.proto_meaning.specs.Flat.{close_instance}
use Rattle.proto_nodes.specs.Shown.{shown}
use Rattle.proto_nodes.specs.Does.{closes, inside_now, open_does}
use Rattle.proto_nodes.specs.Protos.{proto_by}
use Rattle.proto_nodes.proofs.Begun.{closes-instance, open-closes}
use Rattle.proto_nodes.proofs.NodeSteps.{goes-as}
use Rattle.proto_nodes.proofs.braces.close_braces.Goals as goal

pub returns-in-Node-clause-goes : goal.returns-in-Node-clause-goes
returns-in-Node-clause-goes c =
    λ ps k. goes-as ps (doing (open_does ps c.args.opened (inside_now ps c.args.opened)) (shown c.args.walker.now))
    (doing (closes ps c.args.opened.line c.args.opened.name.now c.args.opened.word c.args.opened.inside.owner (inside_now ps c.args.opened)) (shown c.args.walker.now)) c.close_node.result (shown c.close_node.new.walker)
    (open-closes ps c.args.opened (shown c.args.walker.now) c.requires.done) (c.close_node.ensures.goes ps)

pub returns-in-Instance-clause-goes : goal.returns-in-Instance-clause-goes
returns-in-Instance-clause-goes c =
    λ ps k. goes-as ps (doing (open_does ps c.args.opened (inside_now ps c.args.opened)) (shown c.args.walker.now))
    (doing (close_instance c.args.opened.name.now (proto_by ps c.args.opened.word) (inside_now ps c.args.opened)) (shown c.args.walker.now)) c.close_instance.result (shown c.close_instance.new.walker)
    (open-closes ps c.args.opened (shown c.args.walker.now) c.requires.done ∙ closes-instance ps c.args.opened c.in-Instance._interface (shown c.args.walker.now) c.in-Instance.is) (c.close_instance.ensures.goes ps k)
