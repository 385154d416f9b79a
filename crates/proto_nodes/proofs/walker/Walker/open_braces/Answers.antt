use Rattle.std.proofs.Common.{refl}
use Rattle.proto_nodes.proofs.Stepping.{opens}
use Rattle.proto_nodes.proofs.walker.Walker.open_braces.Goals as goal

pub returns : goal.returns
returns c =
    (opens c.args.name.now c.args.self.now (record c.args.self.now { scope = c.open.new.self }) c.in_ok-at.at c.in_ok-at.ensures.at c.in_ok-at.ensures.shown refl refl, c.in_ok-at.ensures.sound)
