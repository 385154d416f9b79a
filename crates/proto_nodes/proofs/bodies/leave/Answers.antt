use Rattle.std.proofs.Common.{Err, Some, ◌∙◌, ap, sym, inr}
use Rattle.proto_parts.specs.Joined.{ends_in}
use Rattle.proto_parts.specs.Sides.{made_routes}
use Rattle.proto_parts.specs.Settled.{doing}
use Rattle.proto_parts.specs.Scope as scope
use Rattle.proto_nodes.specs.Shown.{shown}
use Rattle.proto_nodes.specs.Steps.{standing_in}
use Rattle.proto_nodes.specs.Does.{first_of, leaves, outside}
use Rattle.proto_nodes.proofs.Left.{leave-empty, leave-stands}
use Rattle.proto_nodes.proofs.NodeSteps.{goes-as}
use Rattle.proto_nodes.proofs.bodies.leave.Goals as goal

pub returns-in_default-clause-goes : goal.returns-in_default-clause-goes
returns-in_default-clause-goes c = λ ps. inr (leave-empty c.args.around c.args.first (shown c.args.walker.now) c.in_default.is ∙ ap (λ e. Err e) (sym c.on_line.ensures))

pub returns-in-Ok-clause-goes : goal.returns-in-Ok-clause-goes
returns-in-Ok-clause-goes c =
    λ ps. goes-as ps (leaves c.args.around (first_of c.args.first) (shown c.args.walker.now))
    (doing (standing_in c.args.around.name.now c.args.around.at (record { node = c.in-Some.node; interface = Some c.args.around.proto.now.interface; ends = ends_in c.in-Ok.joined.ends }) (made_routes c.in-Ok.joined.routes)) (outside (scope.shown c.args.around.scope) (shown c.join.new.walker)))
    c.stand_in.result (shown c.stand_in.new.walker)
    (leave-stands c.args.around c.args.first c.in-Some.node (shown c.args.walker.now) (shown c.join.new.walker) (ends_in c.in-Ok.joined.ends) (made_routes c.in-Ok.joined.routes) c.in-Some.is c.in-Ok.ensures.ends c.in-Ok.ensures.routes c.in-Ok.ensures.shown)
    (c.stand_in.ensures.goes ps)
