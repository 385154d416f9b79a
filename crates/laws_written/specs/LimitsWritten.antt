-- A written scene has a flat form, unless it is too large.
use Rattle.std.specs.Prelude.{◌≡◌, ◌≤◌, ◌^◌, List, length, Ok}
use Rattle.x3d_values.specs.declared.fields.Fields.{Fields}
use Rattle.proto_flat.specs.declared.flat.Flat.{Flat}
use Rattle.proto_meaning.specs.Flat.{flat}
use Rattle.scene_core.specs.declared.scene.Route.{Route}
use Rattle.scene_core.specs.Building.{scene_of}
use Rattle.scene_core.specs.Scene.{SceneView}
use Rattle.scene_text.specs.Statements.{scene_document}
use Rattle.laws_written.specs.Writable.{AreKeepable}
use Rattle.laws_written.specs.Distinct.{HaveDistinctFields}
use Rattle.laws_documents.specs.Sound.{IsFlatOrTooLarge}

-- the document that a document's scene is written as, with any routes, has a flat form, or is too
-- large
abbrev pub WrittenScenesAreFlat : Type 0
WrittenScenesAreFlat =
    (from : Flat) (scene : SceneView) (routes : List Route) (state : List Fields)
    → scene_of from ≡ Ok scene → length scene.nodes ≤ 2 ^ 64 → AreKeepable state
    → HaveDistinctFields scene → IsFlatOrTooLarge (flat (scene_document scene routes state))
