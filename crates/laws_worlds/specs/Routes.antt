-- Routes of documents connect only fields that may be connected (ISO/IEC 19775-1, ROUTE).
use Rattle.std.specs.Prelude.{◌≡◌, List, Ok}
use Rattle.proto_flat.specs.declared.flat.Flat.{Flat}
use Rattle.scene_core.specs.declared.scene.Route.{Route}
use Rattle.scene_core.specs.Scene.{SceneView, shapes_of}
use Rattle.route_core.specs.Resolved.{resolved}
use Rattle.laws_worlds.specs.Fits.{AllJoin}

-- each route of a document leads from an output to a field of the same type
abbrev pub RoutesJoin : Type 0
RoutesJoin =
    (flat : Flat) (scene : SceneView) (routes : List Route)
    → resolved flat scene ≡ Ok routes → AllJoin (shapes_of scene) routes
