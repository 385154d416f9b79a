use Rattle.std.proofs.Common.{◌∙◌}
use Rattle.proto_nodes.specs.Shown.{shown}
use Rattle.proto_nodes.proofs.Waiting.{known-as}
use Rattle.proto_expand.proofs.Together.{next-root}
use Rattle.proto_expand.proofs.whole.put_roots.Goals as goal

pub loop-index-preserved : goal.loop-index-preserved
loop-index-preserved c = record {
  rest = λ ps k sized. c.loop-index.invariant.rest ps k sized
      ∙ next-root ps c.args.statements.now c.loop-index.index c.loop-index.roots c.put_next.new.roots (shown c.loop-index.machine.walker) (shown c.put_next.new.machine.walker) sized
      (c.in_ok-looked.ensures.goes ps (known-as ps c.loop-index.machine.protos c.args.machine.now.protos c.loop-index.invariant.protos k));
  protos = c.in_ok-looked.ensures.protos ∙ c.loop-index.invariant.protos;
  sound = c.in_ok-looked.ensures.machine;
  idle = c.in_ok-looked.ensures.frames;
}
