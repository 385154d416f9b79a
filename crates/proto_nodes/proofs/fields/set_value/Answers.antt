use Rattle.proto_nodes.proofs.Given.{value-kept-if}
use Rattle.proto_nodes.proofs.fields.set_value.Goals as goal

pub returns-clause-kept : goal.returns-clause-kept
returns-clause-kept c = value-kept-if c.args.opened.now c.keep_value.new.inside c.args.place c.args.value c.keep_value.result c.keep_value.ensures.filled c.keep_value.ensures.owner
