-- What a snapshot holds of the nodes of a scene, by their types and the fields that Scripts declare
-- (our choice).
use Rattle.std.specs.Prelude.{ℕ, ◌+◌, ◌==◌, ◌&&◌, Bool, List, [], ◌∷◌, length, map, Option, Some, slice_index_or}
use Rattle.byte_codec.specs.Codec.{Codec, checked, refined, named, pair, rows}
use Rattle.x3d_values.specs.declared.fields.Fields.{Fields}
use Rattle.x3d_values.specs.declared.node_type.NodeType.{NodeType}
use Rattle.x3d_values.specs.declared.node_type.NodeType.TheVariants.{Group}
use Rattle.x3d_values.specs.declared.value.Value.{Value}
use Rattle.x3d_values.specs.Tables.{FieldRowView}
use Rattle.scene_core.specs.Scene.{SceneView, shapes_of}
use Rattle.scene_core.specs.Shape.{Shape, rows_of}
use Rattle.snapshot_codec.specs.declared.kept.KeptField.{KeptField}
use Rattle.snapshot_codec.specs.Fields.{kept_field, fields_codec}
use Rattle.sensor_plane.specs.declared.pointing.PointingState.{PointingState}
use Rattle.snapshot_core.specs.declared.beside.Beside.{Beside}
use Rattle.snapshot_core.specs.declared.version.Version.{Version}
unfoldable pub use Rattle.snapshot_core.specs.Beside.{time_part, pointing_part, position_part}
unfoldable pub use Rattle.snapshot_core.specs.Beside.{beside_codec}
use Rattle.cascade_world.specs.Fits.{all_lead}
use Rattle.snapshot_core.specs.declared.nodes.NodeLists.{NodeLists}
use Rattle.snapshot_core.specs.declared.nodes.NodeState.{NodeState}

-- -- the fields that a snapshot holds

-- of rows, of which the first has number n
abbrev pub kept_from : NodeType → ℕ → List FieldRowView → List KeptField
kept_from node_type n [] = []
kept_from node_type n (row ∷ others) =
    kept_field node_type n row.access row.field_type ∷ kept_from node_type (n + 1) others

-- of all fields of a node: those of its type, followed by those that a Script declares
unfoldable pub kept_fields : Shape → List KeptField
kept_fields shape = kept_from shape.node_type 0 (rows_of shape)

-- the shape of a node of the scene
abbrev pub shape_in : SceneView → ℕ → Shape
shape_in scene node =
    slice_index_or (shapes_of scene) node (record { node_type = Group; declared = [] })

-- ---- one node

abbrev pub node_of : List (Option Value) × Beside → NodeState
node_of parts = record {
  fields = record { values = parts.0; position = parts.1.position };
  time = parts.1.time;
  pointing = parts.1.pointing;
}

abbrev pub node_parts : NodeState → List (Option Value) × Beside
node_parts node = (
  node.fields.values,
  record { time = node.time; pointing = node.pointing; position = node.fields.position },
)

-- the values of these fields, and the part after them in snapshots of a version
unfoldable pub state_codec : Version → List KeptField → NodeType → Codec NodeState
state_codec version kept node_type =
    named node_of node_parts (pair (fields_codec kept) (beside_codec version node_type))

unfoldable pub node_codec : Version → Shape → Codec NodeState
node_codec version shape = state_codec version (kept_fields shape) shape.node_type

-- ---- all nodes

-- node by node, up to the end of the shortest list
abbrev pub nodes_from : List Fields → List (Option ℕ) → List PointingState → List NodeState
nodes_from [] sensors pointing = []
nodes_from (fields ∷ others) [] pointing = []
nodes_from (fields ∷ others) (time ∷ sensors) [] = []
nodes_from (fields ∷ others) (time ∷ sensors) (state ∷ pointing) =
    record { fields = fields; time = time; pointing = state }
    ∷ nodes_from others sensors pointing

abbrev pub by_nodes : NodeLists → List NodeState
by_nodes lists = nodes_from lists.fields lists.sensors lists.pointing

abbrev pub by_lists : List NodeState → NodeLists
by_lists nodes = record {
  fields = map (λ (node : NodeState). node.fields) nodes;
  sensors = map (λ (node : NodeState). node.time) nodes;
  pointing = map (λ (node : NodeState). node.pointing) nodes;
}

-- the lists have the same length, and each node has bytes
abbrev pub lists_fit : Version → List Shape → NodeLists → Bool
lists_fit version shapes lists =
    ((length lists.sensors == length lists.fields)
    && (length lists.pointing == length lists.fields))
    && (rows (node_codec version) shapes).fits (by_nodes lists)

-- the nodes one after another
unfoldable pub lists_codec : Version → List Shape → Codec NodeLists
lists_codec version shapes =
    refined (λ nodes. Some (by_lists nodes)) by_nodes (lists_fit version shapes)
    (rows (node_codec version) shapes)

-- the nodes, if the drags lead to their sensors
unfoldable pub nodes_codec : Version → SceneView → Codec NodeLists
nodes_codec version scene =
    checked (λ lists. all_lead scene 0 lists.pointing) (lists_codec version (shapes_of scene))
