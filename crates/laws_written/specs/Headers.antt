-- The head of a written scene (ISO/IEC 19776-2, header statements).
use Rattle.std.specs.Prelude.{◌≡◌, List, Ok}
use Rattle.x3d_values.specs.declared.fields.Fields.{Fields}
use Rattle.proto_flat.specs.declared.flat.Flat.{Flat}
use Rattle.proto_meaning.specs.Flat.{flat}
use Rattle.scene_core.specs.declared.scene.Route.{Route}
use Rattle.scene_core.specs.Building.{scene_of}
use Rattle.scene_core.specs.Scene.{SceneView}
use Rattle.scene_text.specs.Statements.{scene_document}

-- the scene of what is written of a scene, if there is one, has the same header statements
abbrev pub HeadersAreKept : Type 0
HeadersAreKept =
    (scene : SceneView) (routes : List Route) (state : List Fields) (expanded : Flat)
    (again : SceneView) → flat (scene_document scene routes state) ≡ Ok expanded
    → scene_of expanded ≡ Ok again → again.header ≡ scene.header
