use Rattle.std.proofs.Common.{refl}
use Rattle.proto_parts.specs.Put.{flat_of}
use Rattle.proto_nodes.proofs.Stepping.{closes}
use Rattle.proto_nodes.proofs.walker.Walker.close_node.Goals as goal

pub returns : goal.returns
returns c = (
  closes c.args.name.now c.args.at (flat_of c.args.node) c.args.self.now (record c.args.self.now { put = c.close.new.self; scope = c.close-2.new.self }) c.in_ok-number.number
      c.in_ok-number.ensures.number c.in_ok-number.ensures.node c.in_ok-close.ensures.shown refl,
  c.in_ok-close.ensures.sound,
)
