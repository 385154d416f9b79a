use Rattle.proto_meaning.specs.Flat.{note_route}
use Rattle.proto_nodes.specs.Shown.{shown}
use Rattle.proto_nodes.proofs.Left.{body-after}
use Rattle.proto_nodes.proofs.bodies.put_route.Goals as goal

pub returns-clause-goes : goal.returns-clause-goes
returns-clause-goes c = λ ps. body-after ps c.args.body (note_route c.args.route.now) (shown c.args.walker.now) c.put_route-met.result c.go_on.result c.put_route-met.new.self c.go_on.ensures c.put_route-met.ensures
