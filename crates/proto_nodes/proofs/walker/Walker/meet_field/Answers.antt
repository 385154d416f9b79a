use Rattle.std.proofs.Common.{refl}
use Rattle.proto_meaning.specs.Limits.{AField}
use Rattle.proto_nodes.proofs.Stepping.{meets}
use Rattle.proto_nodes.proofs.walker.Walker.meet_field.Goals as goal

pub returns : goal.returns
returns c = meets (AField c.args.number c.args.items) c.args.self.now (record c.args.self.now { room = c.meet_field.new.self }) c.meet_field.result c.meet_field.ensures refl c.requires
