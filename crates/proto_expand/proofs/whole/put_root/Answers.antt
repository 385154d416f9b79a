use Rattle.std.proofs.Common.{◌≡◌, Err, rules, subst, sym}
use Rattle.proto_parts.specs.Settled.{doing}
use Rattle.proto_meaning.specs.declared.tree.BodyTree.TheVariants as body
use Rattle.proto_nodes.specs.Shown.{shown}
use Rattle.proto_nodes.specs.Frames.{Ends}
use Rattle.proto_expand.specs.Whole.{root_does}
use Rattle.proto_expand.proofs.Together.{root-node, root-stops}
use Rattle.proto_expand.proofs.whole.put_root.Goals as goal

pub returns-in_err-number-clause-goes : goal.returns-in_err-number-clause-goes
returns-in_err-number-clause-goes c =
    let failed : c.from_residual.result ≡ Err c.in_err-number.field-0.0 = search rules in
    λ ps k. subst (λ x. Ends (λ (_ : Unit {0}). c.args.roots.now) (doing (root_does ps (body.Node c.args.node.now) c.args.roots.now) (shown c.args.machine.now.walker)) x (shown c.put_node.new.machine.walker)) (sym failed)
    (root-stops ps c.args.node.now c.args.roots.now (shown c.args.machine.now.walker) c.in_err-number.field-0.0 (c.in_err-number.ensures.goes ps k))

pub returns-clause-goes : goal.returns-clause-goes
returns-clause-goes c =
    λ ps k. root-node ps c.args.node.now c.args.roots.now c.push.new.self c.in_ok-number.number (shown c.args.machine.now.walker) (shown c.put_node.new.machine.walker) (c.in_ok-number.ensures.goes ps k) (search rules)
