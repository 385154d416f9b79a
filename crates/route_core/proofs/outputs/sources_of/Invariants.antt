use Rattle.std.proofs.Common.{◌≡◌, map, take}
use Rattle.scene_core.specs.declared.scene.Route.{Route}
use Rattle.route_core.specs.Outputs.{place_in}
use Rattle.route_core.proofs.outputs.sources_of.Given as goal

abbrev pub invariant-loop-route : goal.invariant-loop-route
invariant-loop-route l = l.sources.items ≡ map (λ (r : Route). place_in l.firsts r.source) (take l.route-index l.routes)
