use Rattle.std.proofs.Common.{inr}
use Rattle.proto_meaning.specs.declared.tree.BodyTree.TheVariants as body
use Rattle.proto_nodes.specs.Shown.{shown}
use Rattle.proto_expand.proofs.Together.{statement-as, wrong-root}
use Rattle.proto_expand.proofs.whole.put_statement.Goals as goal

pub returns-in-Node-clause-goes : goal.returns-in-Node-clause-goes
returns-in-Node-clause-goes c =
    λ ps k. statement-as ps c.args.statement.now (body.Node c.in-Node.node) c.args.roots.now c.put_root.new.roots (shown c.args.machine.now.walker) (shown c.put_root.new.machine.walker) c.put_root.result c.in-Node.is (c.put_root.ensures.goes ps k)

pub returns-in-Route-clause-goes : goal.returns-in-Route-clause-goes
returns-in-Route-clause-goes c =
    λ ps k. statement-as ps c.args.statement.now (body.Route c.in-Route.route) c.args.roots.now c.args.roots.now (shown c.args.machine.now.walker) (shown c.put_route.new.machine.walker) c.put_route.result c.in-Route.is (c.put_route.ensures.goes ps)

pub returns-in-Wrong-clause-goes : goal.returns-in-Wrong-clause-goes
returns-in-Wrong-clause-goes c = λ ps k. inr (wrong-root ps c.args.statement.now c.in-Wrong.fault c.args.roots.now (shown c.args.machine.now.walker) c.in-Wrong.is)
