use Rattle.proto_parts.specs.Scope.{with_join}
use Rattle.proto_nodes.proofs.Stepping.{noted}
use Rattle.proto_nodes.proofs.walker.Walker.join_field.Goals as goal

pub returns : goal.returns
returns c =
    (noted (tt {0}) (with_join c.args.outer.now c.args.at c.args.field.now) c.args.self.now c.join.new.self c.in_ok-join.ensures.shown, c.in_ok-join.ensures.sound)
