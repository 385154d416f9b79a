use Rattle.std.proofs.Common.{ap, refl, sym}
use Rattle.proto_parts.specs.Sides.{made_routes}
use Rattle.proto_parts.specs.declared.sides.RoutePart.TheVariants as part
use Rattle.proto_parts.specs.Scope.{shown}
use Rattle.proto_parts.proofs.Scoping.{routes-added}
use Rattle.proto_parts.proofs.scope.Scope.add_routes.Goals as goal

pub returns-clause-shown : goal.returns-clause-shown
returns-clause-shown c =
    routes-added (made_routes c.args.made) (shown c.args.self.now) c.args.self.now.routes.items c.push.new.self.items (part.Made c.in-Some.made) refl c.in_ok-push.ensures.items
    (λ all. ap made_routes (sym c.in-Some.is))
