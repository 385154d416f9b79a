use Rattle.proto_meaning.proofs.Whole.{texts_stand_for_the_same}
use Rattle.proto_meaning.proofs.tree_laws.texts_stand_for_the_same.Goals as goal

pub returns : goal.returns
returns c = texts_stand_for_the_same
