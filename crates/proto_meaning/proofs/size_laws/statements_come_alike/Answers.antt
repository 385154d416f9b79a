use Rattle.proto_meaning.proofs.SizeWhole.{statements_come_alike}
use Rattle.proto_meaning.proofs.size_laws.statements_come_alike.Goals as goal

pub returns : goal.returns
returns c = statements_come_alike
