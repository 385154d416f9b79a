-- The routes of a document in its scene (ISO/IEC 19775-1, ROUTE).
use Rattle.std.specs.Prelude.{ℕ, nat_lt, List, [], ◌∷◌, length, Result, Ok, Err, if◌then◌else◌}
use Rattle.x3d_values.specs.Ranges.{max_routes}
use Rattle.proto_flat.specs.declared.flat.Flat.{Flat}
use Rattle.proto_flat.specs.declared.flat.FlatRoute.{FlatRoute}
use Rattle.scene_core.specs.Scene.{SceneView}
use Rattle.scene_core.specs.declared.scene.Route.{Route}
pub use Rattle.route_core.specs.Firsts.{same_route, added, firsts}
use Rattle.route_core.specs.Ends.{route_of}
use Rattle.route_core.specs.declared.fault.RouteFault.{RouteFault}
use Rattle.route_core.specs.declared.fault.RouteFaultKind.{RouteFaultKind}
use Rattle.route_core.specs.declared.fault.RouteFaultKind.TheVariants.{TooMany, Memory}

-- the fault if memory is refused
abbrev pub memory : RouteFault
memory = record { kind = Memory; line = 0 }

-- a fault has the line of its ROUTE
abbrev pub at_line : ℕ → Result Route RouteFaultKind → Result Route RouteFault
at_line line (Ok route) = Ok route
at_line line (Err kind) = Err (record { kind = kind; line = line })

-- puts the route before the others; the first fault is the result
abbrev pub before_others : Result Route RouteFault → Result (List Route) RouteFault
    → Result (List Route) RouteFault
before_others (Err fault) others = Err fault
before_others (Ok route) (Err fault) = Err fault
before_others (Ok route) (Ok others) = Ok (route ∷ others)

-- all routes in the order of the text, or the first fault
abbrev pub each_of : SceneView → List FlatRoute → Result (List Route) RouteFault
each_of scene [] = Ok []
each_of scene (r ∷ rs) = before_others (at_line r.line (route_of scene r)) (each_of scene rs)

-- the limit of a scene's routes (our choice), which an expanded document keeps
abbrev pub limited : List Route → Result (List Route) RouteFault
limited routes =
    if nat_lt max_routes (length routes)
    then Err (record { kind = TooMany; line = 0 })
    else Ok routes

abbrev pub firsts_of : Result (List Route) RouteFault → Result (List Route) RouteFault
firsts_of (Err fault) = Err fault
firsts_of (Ok routes) = limited (firsts routes)

-- the routes of the document, without repeats
abbrev pub resolved : Flat → SceneView → Result (List Route) RouteFault
resolved flat scene = firsts_of (each_of scene flat.routes)
