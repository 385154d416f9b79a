-- The routes in the flat form of a written scene (ISO/IEC 19775-1, ROUTE): those of the scene.
use Rattle.std.specs.Prelude.{◌≡◌, ◌≤◌, ◌^◌, List, length, map, Ok}
use Rattle.std.specs.List.{AllByRecursion}
use Rattle.x3d_values.specs.declared.fields.Fields.{Fields}
use Rattle.proto_flat.specs.declared.flat.Flat.{Flat}
use Rattle.proto_flat.specs.declared.flat.FlatEnd.{FlatEnd}
use Rattle.proto_flat.specs.declared.flat.FlatEnd.TheVariants.{At}
use Rattle.proto_meaning.specs.Flat.{flat}
use Rattle.laws_documents.specs.Routes.{Shown, route_shown}
use Rattle.scene_core.specs.declared.scene.End.{End}
use Rattle.scene_core.specs.declared.scene.Route.{Route}
use Rattle.scene_core.specs.Building.{scene_of}
use Rattle.scene_core.specs.Scene.{SceneView, field_name}
use Rattle.scene_text.specs.Statements.{scene_document}
use Rattle.laws_written.specs.Writable.{AreKeepable, IsWritableRoute}

-- the node by its number in the scene, and the field by its own name
abbrev pub written_end : SceneView → End → FlatEnd
written_end s end = At end.node (field_name s end)

abbrev pub written_route : SceneView → Route → Shown
written_route s route = (written_end s route.source, written_end s route.target)

-- if the document that a document's scene is written as has a flat form, that form has these
-- routes, in their order; each end is a field of a node of the scene, as for a document's routes
abbrev pub WrittenRoutesStay : Type 0
WrittenRoutesStay =
    (from : Flat) (scene : SceneView) (routes : List Route) (state : List Fields) (again : Flat)
    → scene_of from ≡ Ok scene → length scene.nodes ≤ 2 ^ 64 → AreKeepable state
    → AllByRecursion (IsWritableRoute scene) routes
    → flat (scene_document scene routes state) ≡ Ok again
    → map route_shown again.routes ≡ map (written_route scene) routes
