use Rattle.std.proofs.Common.{refl}
use Rattle.proto_meaning.specs.Limits.{AnItem}
use Rattle.proto_nodes.proofs.Stepping.{meets}
use Rattle.proto_nodes.proofs.walker.Walker.meet_item.Goals as goal

pub returns : goal.returns
returns c = meets AnItem c.args.self.now (record c.args.self.now { room = c.meet_item.new.self }) c.meet_item.result c.meet_item.ensures refl c.requires
