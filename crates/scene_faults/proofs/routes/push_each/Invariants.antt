use Rattle.std.proofs.Common.{◌≡◌, ◌++◌, take}
use Rattle.std.specs.List.{flat_map}
use Rattle.scene_faults.specs.Ends.{route_blames}
use Rattle.scene_faults.proofs.routes.push_each.Given as goal

abbrev pub invariant-loop-route : goal.invariant-loop-route
invariant-loop-route l = l.out ≡ l.fn.out ++ flat_map (route_blames l.nodes) (take l.route-index l.routes)
