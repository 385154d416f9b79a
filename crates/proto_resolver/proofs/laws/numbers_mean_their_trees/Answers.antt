use Rattle.proto_resolver.proofs.Numbers.{numbers_mean_their_trees}
use Rattle.proto_resolver.proofs.laws.numbers_mean_their_trees.Goals as goal

pub returns : goal.returns
returns c = numbers_mean_their_trees
