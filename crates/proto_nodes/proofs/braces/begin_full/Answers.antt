use Rattle.std.proofs.Common.{Some, map, ap, sym, ◌∙◌}
use Rattle.proto_parts.specs.Settled.{doing}
use Rattle.proto_meaning.specs.Flat.{full_node}
use Rattle.proto_meaning.specs.Sight.{OfProto, OfType}
use Rattle.proto_meaning.specs.trees.Meaning.{item, owner}
use Rattle.proto_meaning.specs.declared.tree.Word.TheVariants as word
use Rattle.proto_nodes.specs.Shown.{shown}
use Rattle.proto_nodes.specs.Protos.{proto_by}
use Rattle.proto_nodes.proofs.Begun.{full-as, full-by, of-number}
use Rattle.proto_nodes.proofs.NodeSteps.{goes-as}
use Rattle.proto_nodes.proofs.braces.begin_full.Goals as goal

pub returns-in-Node-clause-goes : goal.returns-in-Node-clause-goes
returns-in-Node-clause-goes c =
    λ ps k. goes-as ps (doing (full_node c.args.text.line c.args.text.name.now (map (item ps) c.args.text.items.now) (owner ps c.args.text.word)) (shown c.args.walker.now))
    (doing (full_node c.args.text.line c.args.text.name.now (map (item ps) c.args.text.items.now) (Some (OfType c.in-Node.node_type))) (shown c.args.walker.now)) c.begin_node.result (shown c.begin_node.new.walker)
    (full-as ps c.args.text.line c.args.text.name.now c.args.text.items.now c.args.text.word (word.Node c.in-Node.node_type) (shown c.args.walker.now) c.in-Node.is) (c.begin_node.ensures.goes ps)

pub returns-in-Some-clause-goes : goal.returns-in-Some-clause-goes
returns-in-Some-clause-goes c =
    λ ps k. let there = of-number ps c.args.protos.now c.in-Instance.number c.in-Some.proto.now k (sym c.in-Some.ensures) in
    goes-as ps (doing (full_node c.args.text.line c.args.text.name.now (map (item ps) c.args.text.items.now) (owner ps c.args.text.word)) (shown c.args.walker.now))
    (doing (full_node c.args.text.line c.args.text.name.now (map (item ps) c.args.text.items.now) (Some (OfProto (proto_by ps (word.Instance c.in-Instance.number))))) (shown c.args.walker.now)) c.begin_instance.result (shown c.begin_instance.new.walker)
    (full-as ps c.args.text.line c.args.text.name.now c.args.text.items.now c.args.text.word (word.Instance c.in-Instance.number) (shown c.args.walker.now) c.in-Instance.is
    ∙ full-by ps c.args.text.line c.args.text.name.now c.args.text.items.now c.in-Instance.number (Some (proto_by ps (word.Instance c.in-Instance.number))) (shown c.args.walker.now) there.0)
    (c.begin_instance.ensures.goes ps (proto_by ps (word.Instance c.in-Instance.number)) there.1 (ap (proto_by ps) c.in-Instance.is))
