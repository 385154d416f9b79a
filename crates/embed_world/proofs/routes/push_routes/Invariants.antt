use Rattle.std.proofs.Common.{◌≡◌, ◌++◌, take}
use Rattle.std.specs.List.{flat_map}
use Rattle.embed_world.specs.Looks.{route_numbers}
use Rattle.embed_world.proofs.routes.push_routes.Given as goal

abbrev pub invariant-loop-route : goal.invariant-loop-route
invariant-loop-route l = l.out.items ≡ l.fn.out.items ++ flat_map route_numbers (take l.route-index l.routes)
