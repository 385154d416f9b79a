use Rattle.proto_expand.proofs.Together.{known-all}
use Rattle.proto_expand.proofs.whole.protos_of.Goals as goal

pub returns : goal.returns
returns c = λ ps k. known-all ps c.in_ok-protos.protos.items c.args.trees.now c.in_ok-protos.ensures k
