use Rattle.std.proofs.Common.{Some, ◌∙◌, ap, sym}
use Rattle.proto_parts.specs.Joined.{ends_in}
use Rattle.proto_parts.specs.Sides.{made_routes}
use Rattle.proto_parts.specs.Settled.{doing}
use Rattle.proto_parts.specs.Scope as scope
use Rattle.proto_nodes.specs.Shown.{shown}
use Rattle.proto_nodes.specs.Steps.{standing_in}
use Rattle.proto_nodes.specs.Does.{outside}
use Rattle.proto_nodes.proofs.Begun.{number-goes}
use Rattle.proto_nodes.proofs.bodies.stand_in.Goals as goal

pub returns-clause-goes : goal.returns-clause-goes
returns-clause-goes c =
    λ ps. number-goes ps (doing (standing_in c.args.around.name.now c.args.around.at (record { node = c.args.node; interface = Some c.args.around.proto.now.interface; ends = ends_in c.args.joined.ends }) (made_routes c.args.joined.routes)) (outside (scope.shown c.args.around.scope) (shown c.args.walker.now)))
    c.in_ok-number.number (shown c.stand_in.new.self)
    (ap (λ s. doing (standing_in c.args.around.name.now c.args.around.at (record { node = c.args.node; interface = Some c.args.around.proto.now.interface; ends = ends_in c.args.joined.ends }) (made_routes c.args.joined.routes)) s) (sym c.leave.ensures.shown)
    ∙ c.in_ok-number.ensures.0)
