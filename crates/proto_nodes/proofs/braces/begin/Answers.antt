use Rattle.std.proofs.Common.{map, ap, sym, ◌∙◌}
use Rattle.proto_parts.specs.Settled.{doing}
use Rattle.proto_meaning.specs.Flat.{full_node}
use Rattle.proto_meaning.specs.trees.Meaning.{item, node, owner}
use Rattle.proto_nodes.specs.Shown.{shown}
use Rattle.proto_nodes.specs.Steps.{using}
use Rattle.proto_nodes.proofs.Trees.{node-full, node-use}
use Rattle.proto_nodes.proofs.NodeSteps.{goes-as}
use Rattle.proto_nodes.proofs.braces.begin.Goals as goal

pub returns-in-Use-clause-goes : goal.returns-in-Use-clause-goes
returns-in-Use-clause-goes c =
    λ ps k. goes-as ps (doing (node ps c.args.node.now).does (shown c.args.walker.now)) (doing (using c.in-Use.line c.in-Use.name.now) (shown c.args.walker.now)) c.begin_use.result (shown c.begin_use.new.walker)
    (ap (λ n. doing (node ps n).does (shown c.args.walker.now)) c.in-Use.is ∙ ap (λ m. doing m (shown c.args.walker.now)) (node-use ps c.in-Use.line c.in-Use.name))
    (c.begin_use.ensures.goes ps)

pub returns-in-Full-clause-goes : goal.returns-in-Full-clause-goes
returns-in-Full-clause-goes c =
    λ ps k. goes-as ps (doing (node ps c.args.node.now).does (shown c.args.walker.now)) (doing (full_node c.in-Full.line c.in-Full.name.now (map (item ps) c.as_slice.result.now) (owner ps c.in-Full.word)) (shown c.args.walker.now)) c.begin_full.result (shown c.begin_full.new.walker)
    (ap (λ n. doing (node ps n).does (shown c.args.walker.now)) c.in-Full.is ∙ ap (λ m. doing m (shown c.args.walker.now)) (node-full ps c.in-Full.line c.in-Full.name c.in-Full.word c.in-Full.items)
    ∙ ap (λ ts. doing (full_node c.in-Full.line c.in-Full.name.now (map (item ps) ts) (owner ps c.in-Full.word)) (shown c.args.walker.now)) (sym c.as_slice.ensures))
    (c.begin_full.ensures.goes ps k)
