use Rattle.std.proofs.Common.{◌≡◌, ◌++◌, map, take}
use Rattle.classic_tree.specs.declared.tree.Statement.TheVariants as statement
use Rattle.scene_core.specs.declared.scene.Route.{Route}
use Rattle.scene_text.specs.Statements.{route_of}
use Rattle.scene_text.proofs.statements.push_routes.Given as goal

abbrev pub invariant-loop-route : goal.invariant-loop-route
invariant-loop-route l =
    l.out.items ≡ l.initial.out.items
    ++ map (λ (r : Route). statement.Route (route_of l.scene r)) (take l.route-index l.routes)
