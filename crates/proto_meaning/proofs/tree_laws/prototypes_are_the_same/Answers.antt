use Rattle.proto_meaning.proofs.Prototypes.{prototypes_are_the_same}
use Rattle.proto_meaning.proofs.tree_laws.prototypes_are_the_same.Goals as goal

pub returns : goal.returns
returns c = prototypes_are_the_same
