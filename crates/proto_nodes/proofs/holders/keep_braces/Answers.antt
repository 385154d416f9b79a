use Rattle.proto_nodes.proofs.Waiting.{braces-kept}
use Rattle.proto_nodes.proofs.holders.keep_braces.Goals as goal

pub returns-in-Ok-clause-goes : goal.returns-in-Ok-clause-goes
returns-in-Ok-clause-goes c = λ ps s. braces-kept ps c.args.opened c.set_value.new.opened c.args.place c.args.value s (c.in-Ok.ensures.kept ps s)
