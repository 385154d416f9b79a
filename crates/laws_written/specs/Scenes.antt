-- The fields of the nodes of a document's scene have distinct names (ISO/IEC 19775-1, Script), and
-- what follows for the flat form of the written scene.
use Rattle.std.specs.Prelude.{◌≡◌, ◌≤◌, ◌^◌, List, length, Ok}
use Rattle.x3d_values.specs.declared.fields.Fields.{Fields}
use Rattle.classic_tree.specs.declared.tree.Document.{Document}
use Rattle.proto_flat.specs.declared.flat.Flat.{Flat}
use Rattle.proto_meaning.specs.Flat.{flat}
use Rattle.scene_core.specs.declared.scene.Route.{Route}
use Rattle.scene_core.specs.Building.{scene_of}
use Rattle.scene_core.specs.Scene.{SceneView}
use Rattle.scene_text.specs.Statements.{scene_document}
use Rattle.laws_written.specs.Writable.{AreKeepable}
use Rattle.laws_written.specs.Distinct.{HaveDistinctFields}
use Rattle.laws_written.specs.FieldsFlats.{HasFieldsOf}

-- for every document that has a scene
abbrev pub FieldsAreDistinct : Type 0
FieldsAreDistinct =
    (d : Document) (f : Flat) (scene : SceneView) → flat d ≡ Ok f → scene_of f ≡ Ok scene
    → HaveDistinctFields scene

-- if the document that a document's scene is written as has a flat form, its nodes have the fields
-- of the scene's nodes
abbrev pub DocumentFieldsStay : Type 0
DocumentFieldsStay =
    (d : Document) (from : Flat) (scene : SceneView) (routes : List Route) (state : List Fields)
    (again : Flat)
    → flat d ≡ Ok from → scene_of from ≡ Ok scene → length scene.nodes ≤ 2 ^ 64 → AreKeepable state
    → flat (scene_document scene routes state) ≡ Ok again → HasFieldsOf scene state again
