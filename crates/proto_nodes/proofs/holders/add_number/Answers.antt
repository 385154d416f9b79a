use Rattle.proto_nodes.proofs.Waiting.{list-more}
use Rattle.proto_nodes.proofs.holders.add_number.Goals as goal

pub returns-in-Ok-clause-goes : goal.returns-in-Ok-clause-goes
returns-in-Ok-clause-goes c = λ ps s. list-more ps c.args.holder c.args.listing c.in-Ok.listing c.args.number s c.in-Ok.ensures
