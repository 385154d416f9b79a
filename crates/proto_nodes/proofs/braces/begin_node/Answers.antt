use Rattle.std.proofs.Common.{◌≡◌, Err, rules, subst, sym}
use Rattle.proto_parts.specs.Settled.{doing}
use Rattle.proto_parts.specs.declared.inside.Owner.TheVariants as held
use Rattle.proto_meaning.specs.Flat as flat
use Rattle.proto_meaning.specs.Sight.{OfType}
use Rattle.proto_meaning.specs.trees.Meaning.{item}
use Rattle.std.proofs.Common.{map, Some}
use Rattle.proto_nodes.specs.Shown.{shown}
use Rattle.proto_nodes.specs.Does.{braces_do}
use Rattle.proto_nodes.specs.Frames.{Goes}
use Rattle.proto_nodes.proofs.Begun.{node-begins, node-stops}
use Rattle.proto_nodes.proofs.NodeSteps.{goes-as}
use Rattle.proto_nodes.proofs.braces.begin_node.Goals as goal

pub returns-in_err-meet_node-clause-goes : goal.returns-in_err-meet_node-clause-goes
returns-in_err-meet_node-clause-goes c =
    let failed : c.from_residual.result ≡ Err c.in_err-meet_node.field-0.0 = search rules in
    λ ps. subst (λ x. Goes ps (doing (flat.full_node c.args.text.line c.args.text.name.now (map (item ps) c.args.text.items.now) (Some (OfType c.args.node_type))) (shown c.args.walker.now)) x (shown c.meet_node.new.self)) (sym failed)
    (node-stops ps c.args.text.line c.args.text.name.now c.args.node_type c.args.text.items.now (shown c.args.walker.now) c.in_err-meet_node.field-0.0 c.in_err-meet_node.ensures)

pub returns-clause-goes : goal.returns-clause-goes
returns-clause-goes c =
    λ ps. goes-as ps (doing (flat.full_node c.args.text.line c.args.text.name.now (map (item ps) c.args.text.items.now) (Some (OfType c.args.node_type))) (shown c.args.walker.now))
    (doing (braces_do ps c.args.text.line c.args.text.name.now c.args.text.word (held.Node c.args.node_type) c.args.text.items.now) (shown c.meet_node.new.self)) c.open_braces.result (shown c.open_braces.new.walker)
    (node-begins ps c.args.text.line c.args.text.name.now c.args.text.word c.args.node_type c.args.text.items.now (shown c.args.walker.now) (shown c.meet_node.new.self) c.in_ok-meet_node.ensures.0)
    (c.open_braces.ensures.goes ps)
