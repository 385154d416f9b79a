use Rattle.std.proofs.Common.{◌≡◌, Err, Some, map, rules, subst, sym}
use Rattle.proto_parts.specs.Settled.{doing}
use Rattle.proto_meaning.specs.Flat.{full_node}
use Rattle.proto_meaning.specs.Sight.{OfProto}
use Rattle.proto_meaning.specs.trees.Meaning.{item}
use Rattle.proto_nodes.specs.Shown.{shown}
use Rattle.proto_nodes.specs.Protos.{proto_by}
use Rattle.proto_nodes.specs.Does.{instance_do}
use Rattle.proto_nodes.specs.Frames.{Goes}
use Rattle.proto_nodes.proofs.Begun.{instance-begins, instance-twice}
use Rattle.proto_nodes.proofs.NodeSteps.{goes-as}
use Rattle.proto_nodes.proofs.braces.begin_instance.Goals as goal

pub returns-in_err-check_interface-clause-goes : goal.returns-in_err-check_interface-clause-goes
returns-in_err-check_interface-clause-goes c =
    let failed : c.from_residual-in_err-check_interface.result ≡ Err c.in_err-check_interface.field-0.0 = search rules in
    λ ps p k by. subst (λ x. Goes ps (doing (full_node c.args.text.line c.args.text.name.now (map (item ps) c.args.text.items.now) (Some (OfProto p))) (shown c.args.walker.now)) x (shown c.meet_instance.new.self)) (sym failed)
    (instance-twice ps c.args.text.line c.args.text.name.now p c.args.proto.now c.args.text.items.now (shown c.args.walker.now) (shown c.meet_instance.new.self) c.in_err-check_interface.field-0.0 k c.in_ok-meet_instance.ensures.0 c.in_err-check_interface.ensures)

pub returns-clause-goes : goal.returns-clause-goes
returns-clause-goes c =
    λ ps p k by. goes-as ps (doing (full_node c.args.text.line c.args.text.name.now (map (item ps) c.args.text.items.now) (Some (OfProto p))) (shown c.args.walker.now))
    (doing (instance_do ps c.args.text.name.now (proto_by ps c.args.text.word) c.args.proto.now.interface c.args.text.items.now) (shown c.meet_instance.new.self)) c.open_instance.result (shown c.open_instance.new.walker)
    (instance-begins ps c.args.text.line c.args.text.name.now c.args.text.word p c.args.proto.now c.args.text.items.now (shown c.args.walker.now) (shown c.meet_instance.new.self) (shown c.meet_instance.new.self) k by c.in_ok-meet_instance.ensures.0 c.in_ok-check_interface.ensures.0)
    (c.open_instance.ensures.goes ps)
