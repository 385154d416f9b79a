-- The fields of a node have distinct names (ISO/IEC 19775-1, Script).
use Rattle.std.specs.Prelude.{◌≡◌, ◌⊎◌, ℕ, true, [], Some, slice_get}
use Rattle.x3d_values.specs.declared.node_type.NodeType.TheVariants.{Script}
use Rattle.x3d_values.specs.Tables.{are_distinct}
use Rattle.scene_core.specs.declared.scene.SceneNode.{SceneNode}
use Rattle.scene_core.specs.Scene.{SceneView, shape_of}
use Rattle.scene_core.specs.Shape.{rows_of}

-- a node whose fields have distinct names
pub record HasDistinctFields (node : SceneNode) : Type 0 where
  -- only a Script declares fields
  pub scripted : (node.node_type ≡ Script) ⊎ (node.declared ≡ [])
  -- no two fields, of the type or declared, have the same name
  pub distinct : are_distinct (rows_of (shape_of node)) ≡ true

-- every node of a scene has distinct fields
abbrev pub HaveDistinctFields : SceneView → Type 0
HaveDistinctFields s =
    (n : ℕ) (node : SceneNode) → slice_get s.nodes n ≡ Some node → HasDistinctFields node
