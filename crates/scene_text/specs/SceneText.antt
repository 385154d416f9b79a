-- The text of a scene.
use Rattle.std.specs.Prelude.{ℕ, List}
use Rattle.x3d_values.specs.declared.fields.Fields.{Fields}
use Rattle.classic_tree.specs.Writing.{document_text}
use Rattle.scene_core.specs.declared.scene.Route.{Route}
use Rattle.scene_core.specs.Scene.{SceneView}
use Rattle.scene_text.specs.Statements.{scene_document}

-- the text of the document of a scene with these routes, whose nodes keep these fields
unfoldable pub scene_text : SceneView → List Route → List Fields → List ℕ
scene_text scene routes state = document_text (scene_document scene routes state)
