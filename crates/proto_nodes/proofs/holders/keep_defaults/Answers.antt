use Rattle.proto_nodes.proofs.Waiting.{defaults-kept}
use Rattle.proto_nodes.proofs.holders.keep_defaults.Goals as goal

pub returns-in-Ok-clause-goes : goal.returns-in-Ok-clause-goes
returns-in-Ok-clause-goes c = λ ps s. defaults-kept ps c.args.filling c.fill.new.filling c.args.place c.args.value s c.in-Ok.ensures
