use Rattle.proto_nodes.specs.Shown.{shown}
use Rattle.proto_nodes.specs.declared.frames.Holder.TheVariants as holder
use Rattle.proto_nodes.specs.Frames.{holder_comes}
use Rattle.proto_nodes.proofs.Waiting.{braces-next, braces-next-sound}
use Rattle.proto_nodes.proofs.holders.go_on_braces.Goals as goal

pub proceed-requires : goal.proceed-requires
proceed-requires c = braces-next-sound c.next_item-next.new.opened c.next_item-next.result c.next_item-next.new.walker c.next_item-next.ensures.sound

pub returns-clause-goes : goal.returns-clause-goes
returns-clause-goes c =
    λ ps k. c.proceed.ensures.goes ps (holder_comes ps (holder.Braces c.args.opened) (shown c.args.walker.now)) k
    (braces-next ps c.args.opened c.next_item-next.new.opened (shown c.args.walker.now) c.next_item-next.result c.next_item-next.new.walker (c.next_item-next.ensures.goes ps))
