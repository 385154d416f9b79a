-- The flat form of a written scene (ISO/IEC 19775-1, scene graph): its nodes by their numbers in
-- the scene.
use Rattle.std.specs.Prelude.{◌≡◌, ◌≤◌, ◌^◌, List, length, map, Ok}
use Rattle.x3d_values.specs.declared.fields.Fields.{Fields}
use Rattle.proto_flat.specs.declared.flat.Flat.{Flat}
use Rattle.proto_meaning.specs.Flat.{flat}
use Rattle.laws_documents.specs.Closings.{shown}
use Rattle.laws_documents.specs.Uses.{held, some}
use Rattle.scene_core.specs.declared.scene.Route.{Route}
use Rattle.scene_core.specs.Building.{scene_of}
use Rattle.scene_core.specs.Scene.{SceneView}
use Rattle.scene_text.specs.Statements.{scene_document}
use Rattle.laws_written.specs.Writable.{AreKeepable}
use Rattle.laws_written.specs.Braces.{written_braces}
use Rattle.laws_written.specs.Nodes.{written_nodes, written_roots}

-- the n-th node of the flat form is that of the scene, and after them comes the node with the
-- helpers, if there are any
pub record IsFlatOf (s : SceneView) (routes : List Route) (f : Flat) : Type 0 where
  -- types and names
  pub nodes : map shown f.nodes ≡ written_braces s routes
  -- the nodes in their fields
  pub inside : map held f.nodes ≡ map (map some) (written_nodes s)
  pub roots : f.roots ≡ written_roots s

-- if the document that a document's scene is written as has a flat form, then IsFlatOf holds
abbrev pub WrittenNodesStay : Type 0
WrittenNodesStay =
    (from : Flat) (scene : SceneView) (routes : List Route) (state : List Fields) (again : Flat)
    → scene_of from ≡ Ok scene → length scene.nodes ≤ 2 ^ 64 → AreKeepable state
    → flat (scene_document scene routes state) ≡ Ok again → IsFlatOf scene routes again
