use Rattle.proto_meaning.proofs.Bare.{bare_instances_come_alike}
use Rattle.proto_meaning.proofs.size_laws.bare_instances_come_alike.Goals as goal

pub returns : goal.returns
returns c = bare_instances_come_alike
