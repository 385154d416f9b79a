use Rattle.proto_meaning.proofs.SizeWhole.{prototypes_are_sized}
use Rattle.proto_meaning.proofs.size_laws.prototypes_are_sized.Goals as goal

pub returns : goal.returns
returns c = prototypes_are_sized
