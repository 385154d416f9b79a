use Rattle.proto_meaning.proofs.SizeWhole.{declared_prototypes_are_sized}
use Rattle.proto_meaning.proofs.size_laws.declared_prototypes_are_sized.Goals as goal

pub returns : goal.returns
returns c = declared_prototypes_are_sized
