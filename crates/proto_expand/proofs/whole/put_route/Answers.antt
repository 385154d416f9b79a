use Rattle.proto_nodes.specs.Shown.{shown}
use Rattle.proto_nodes.proofs.Waiting.{machine-walks}
use Rattle.proto_expand.proofs.Together.{always, route-ends, steps-sound}
use Rattle.proto_expand.proofs.whole.put_route.Goals as goal

pub returns-clause-goes : goal.returns-clause-goes
returns-clause-goes c = λ ps. route-ends ps c.args.route c.args.roots.now (shown c.args.machine.now.walker) c.put_route.result c.put_route.new.self c.put_route.ensures

pub returns-clause-machine : goal.returns-clause-machine
returns-clause-machine c = machine-walks c.put_route.result c.args.machine.now c.put_route.new.self (steps-sound _ c.put_route.result c.put_route.new.self c.put_route.ensures) c.requires.machine

pub returns-clause-frames : goal.returns-clause-frames
returns-clause-frames c = always c.put_route.result c.requires.idle
