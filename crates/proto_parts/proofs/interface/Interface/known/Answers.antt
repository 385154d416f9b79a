use Rattle.proto_parts.proofs.Numbered.{known-is}
use Rattle.proto_parts.proofs.interface.Interface.known.Goals as goal

pub returns : goal.returns
returns c = known-is c.args.name.now c.args.self.now c.field.result c.field.ensures
