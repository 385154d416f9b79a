use Rattle.proto_nodes.proofs.Left.{help-goes}
use Rattle.proto_nodes.proofs.bodies.help.Goals as goal

pub returns-in-Ok-clause-goes : goal.returns-in-Ok-clause-goes
returns-in-Ok-clause-goes c = λ ps. help-goes ps c.args.body c.args.first c.args.number c.args.walker.now c.help.new.self c.requires.first c.in-Ok.ensures
