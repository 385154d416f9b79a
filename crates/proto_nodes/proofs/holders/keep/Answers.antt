use Rattle.proto_nodes.specs.declared.frames.Holder.TheVariants as holder
use Rattle.proto_nodes.proofs.Waiting.{value-as}
use Rattle.proto_nodes.proofs.holders.keep.Goals as goal

pub returns-in-Braces-clause-goes : goal.returns-in-Braces-clause-goes
returns-in-Braces-clause-goes c = λ ps s. value-as ps c.args.holder (holder.Braces c.in-Braces.opened) c.args.place c.args.value s c.keep_braces.result c.in-Braces.is (c.keep_braces.ensures.goes ps s)

pub returns-in-Defaults-clause-goes : goal.returns-in-Defaults-clause-goes
returns-in-Defaults-clause-goes c = λ ps s. value-as ps c.args.holder (holder.Defaults c.in-Defaults.filling) c.args.place c.args.value s c.keep_defaults.result c.in-Defaults.is (c.keep_defaults.ensures.goes ps s)
