use Rattle.std.proofs.Common.{◌≡◌, drop}
use Rattle.std.specs.Prelude.{All}
use Rattle.scene_core.specs.declared.scene.Route.{Route}
use Rattle.route_core.specs.Ends.{IsKnown}
use Rattle.route_core.specs.Resolved.{each_of}
use Rattle.route_core.proofs.Lists.{behind}
use Rattle.route_core.proofs.resolving.each_by.Given as goal

-- the routes so far, with the rest behind them, are all
abbrev pub invariant-loop-route : goal.invariant-loop-route
invariant-loop-route l =
    (behind l.all (each_of l.scene (drop l.route-index l.routes)) ≡ each_of l.scene l.routes) × All (λ (r : Route). IsKnown l.scene r.source) l.all
