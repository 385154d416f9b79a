use Rattle.std.proofs.Common.{◌∙◌, ◌++◌, ◌∷◌, [], ap}
use Rattle.classic_tree.specs.declared.tree.RouteText.{RouteText}
use Rattle.classic_tree.specs.declared.tree.Statement.TheVariants as statement
use Rattle.scene_core.specs.declared.scene.Route.{Route}
use Rattle.scene_text.specs.Statements.{route_of}
use Rattle.scene_text.proofs.Ranges.{map_next}
use Rattle.scene_text.proofs.statements.push_routes.Goals as goal

pub loop-route-preserved : goal.loop-route-preserved
loop-route-preserved c =
    map_next (λ (r : Route). statement.Route (route_of c.args.scene.now r)) c.args.out.now.items c.args.routes.now c.loop-route.route-index _
    c.loop-route.out.items c.push.new.self.items c.loop-route-test.true c.loop-route.invariant
    (c.in_ok-push.ensures.items ∙ ap (λ (t : RouteText). c.loop-route.out.items ++ statement.Route t ∷ []) c.in_ok-route_of.ensures)
