use Rattle.proto_nodes.specs.Protos.{proto_by}
use Rattle.proto_nodes.proofs.braces.close_instance.Goals as goal

pub returns-clause-goes : goal.returns-clause-goes
returns-clause-goes c = λ ps k. c.begin_defaults.ensures.goes ps (proto_by ps c.args.opened.word) (c.in-Some.ensures ps k)
