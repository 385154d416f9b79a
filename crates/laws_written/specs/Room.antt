-- A Switch has room above the helpers of a scene that was written and read again (the limit on
-- chains of nodes is our choice).
use Rattle.std.specs.Prelude.{◌≡◌, true, List, Ok}
use Rattle.x3d_values.specs.declared.fields.Fields.{Fields}
use Rattle.proto_flat.specs.declared.flat.Flat.{Flat}
use Rattle.scene_core.specs.declared.scene.Route.{Route}
use Rattle.scene_core.specs.Building.{scene_of}
use Rattle.scene_core.specs.Scene.{SceneView}
use Rattle.laws_written.specs.WrittenTexts.{has_room}
use Rattle.laws_written.specs.Again.{IsWrittenOf}

-- no chain from a helper is of the maximum length, if the scene that is read again exists, in which
-- the helpers are one node deeper
abbrev pub ScenesAgainHaveRoom : Type 0
ScenesAgainHaveRoom =
    (again : Flat) (scene : SceneView) (routes : List Route) (state : List Fields)
    (next : SceneView) → scene_of again ≡ Ok next → IsWrittenOf scene routes state next
    → has_room scene ≡ true
