use Rattle.std.proofs.Common.{refl}
use Rattle.proto_meaning.specs.Limits.{ANode}
use Rattle.proto_nodes.proofs.Stepping.{meets}
use Rattle.proto_nodes.proofs.walker.Walker.meet_node.Goals as goal

pub returns : goal.returns
returns c = meets ANode c.args.self.now (record c.args.self.now { room = c.meet_node.new.self }) c.meet_node.result c.meet_node.ensures refl c.requires
