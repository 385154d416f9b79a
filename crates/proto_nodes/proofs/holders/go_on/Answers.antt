use Rattle.proto_nodes.specs.Shown.{shown}
use Rattle.proto_nodes.specs.declared.frames.Holder.TheVariants as holder
use Rattle.proto_nodes.proofs.Waiting.{holder-as}
use Rattle.proto_nodes.proofs.holders.go_on.Goals as goal

pub returns-in-Braces-clause-goes : goal.returns-in-Braces-clause-goes
returns-in-Braces-clause-goes c =
    λ ps k. holder-as ps c.args.holder (holder.Braces c.in-Braces.opened) (shown c.args.walker.now) (shown c.go_on_braces.new.walker) c.go_on_braces.result c.in-Braces.is (c.go_on_braces.ensures.goes ps k)

pub returns-in-Defaults-clause-goes : goal.returns-in-Defaults-clause-goes
returns-in-Defaults-clause-goes c =
    λ ps k. holder-as ps c.args.holder (holder.Defaults c.in-Defaults.filling) (shown c.args.walker.now) (shown c.go_on_defaults.new.walker) c.go_on_defaults.result c.in-Defaults.is (c.go_on_defaults.ensures.goes ps k)
