use Rattle.proto_nodes.specs.Shown.{shown}
use Rattle.proto_nodes.specs.declared.frames.Holder.TheVariants as holder
use Rattle.proto_nodes.specs.Frames.{holder_comes}
use Rattle.proto_nodes.proofs.Waiting.{defaults-next, defaults-next-sound}
use Rattle.proto_nodes.proofs.holders.go_on_defaults.Goals as goal

pub proceed-requires : goal.proceed-requires
proceed-requires c = defaults-next-sound c.next_default-next.new.filling c.next_default-next.result c.or_memory.result c.args.walker.now c.or_memory.ensures c.requires.walker c.next_default-next.ensures.sound

pub returns-clause-goes : goal.returns-clause-goes
returns-clause-goes c =
    λ ps k. c.proceed.ensures.goes ps (holder_comes ps (holder.Defaults c.args.filling) (shown c.args.walker.now)) k
    (defaults-next ps c.args.filling c.next_default-next.new.filling c.next_default-next.result c.or_memory.result c.args.walker.now c.or_memory.ensures (c.next_default-next.ensures.goes ps (shown c.args.walker.now)))
