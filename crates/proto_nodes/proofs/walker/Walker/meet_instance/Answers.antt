use Rattle.std.proofs.Common.{refl}
use Rattle.proto_meaning.specs.Limits.{AnInstance}
use Rattle.proto_nodes.proofs.Stepping.{meets}
use Rattle.proto_nodes.proofs.walker.Walker.meet_instance.Goals as goal

pub returns : goal.returns
returns c = meets AnInstance c.args.self.now (record c.args.self.now { room = c.meet_instance.new.self }) c.meet_instance.result c.meet_instance.ensures refl c.requires
