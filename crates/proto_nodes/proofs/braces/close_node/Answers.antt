use Rattle.std.proofs.Common.{refl, ◌∙◌}
use Rattle.proto_parts.specs.Settled.{doing}
use Rattle.proto_parts.specs.Put.{flat_of}
use Rattle.proto_nodes.specs.Shown.{shown}
use Rattle.proto_nodes.specs.Does.{closes, inside_now}
use Rattle.proto_nodes.proofs.Begun.{closes-node, number-goes}
use Rattle.proto_nodes.proofs.braces.close_node.Goals as goal

pub returns-clause-goes : goal.returns-clause-goes
returns-clause-goes c =
    λ ps. number-goes ps (doing (closes ps c.args.opened.line c.args.opened.name.now c.args.opened.word c.args.opened.inside.owner (inside_now ps c.args.opened)) (shown c.args.walker.now)) c.in_ok-number.number (shown c.close_node.new.self)
    (closes-node ps c.args.opened c.args.node_type (flat_of c.in_ok-node.node) (shown c.args.walker.now) c.requires.owner (c.in_ok-node.ensures (inside_now ps c.args.opened) refl refl) ∙ c.in_ok-number.ensures.0)
