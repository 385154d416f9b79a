-- A scene by its nodes' numbers (ISO/IEC 19775-1, scene graph).
use Rattle.std.specs.Prelude.{ℕ, Bool, false, ◌++◌, List, [], Option, Some, None, codes, decimal, map, slice_get, slice_index_or, unwrap_or, if◌then◌else◌}
use Rattle.std.specs.Option.{option_and_then, option_map, option_map_or}
use Rattle.std.specs.List.{zip}
use Rattle.x3d_values.specs.declared.table.FieldRow.{FieldRow}
use Rattle.x3d_values.specs.declared.fields.Fields.{Fields}
use Rattle.x3d_values.specs.declared.node_type.NodeType.{NodeType}
use Rattle.x3d_values.specs.declared.value.Value.{Value}
use Rattle.x3d_values.specs.declared.value.Value.TheVariants.{MFNode}
use Rattle.x3d_values.specs.Access.{is_kept}
use Rattle.x3d_values.specs.Tables.{FieldRowView, rows, row_named}
use Rattle.proto_flat.specs.declared.flat.Header.{Header}
use Rattle.scene_core.specs.declared.scene.End.{End}
use Rattle.scene_core.specs.declared.scene.SceneNode.{SceneNode}
use Rattle.scene_core.specs.declared.row.DeclaredField.{DeclaredField}
use Rattle.scene_core.specs.Shape.{Shape, shape_by, numbered_fields, rows_of}

-- the nodes of a scene, its roots and helpers, which nodes of the expanded document it has, and the
-- number of each
pub record SceneView : Type 0 where
  pub header : Header
  pub nodes : List SceneNode
  pub roots : List ℕ
  pub helpers : List ℕ
  pub opened : List Bool
  pub numbers : List ℕ

abbrev pub types_of : SceneView → List NodeType
types_of s = map (λ (n : SceneNode). n.node_type) s.nodes

-- the fields of each node
abbrev pub shape_of : SceneNode → Shape
shape_of n = shape_by n.node_type n.declared

abbrev pub shapes_of : SceneView → List Shape
shapes_of s = map shape_of s.nodes

-- the number in the scene of a node of the expanded document, if the scene has the node
abbrev pub number_of : SceneView → ℕ → Option ℕ
number_of s node = if slice_index_or s.opened node false then slice_get s.numbers node else None

-- the opening value of a field
abbrev pub value_at : SceneView → ℕ → ℕ → Option Value
value_at s node field =
    option_and_then (λ (n : SceneNode). option_and_then (λ v. v) (slice_get n.values field))
    (slice_get s.nodes node)

-- ---- queries of a scene

abbrev pub type_at : SceneView → ℕ → Option NodeType
type_at s node = slice_get (types_of s) node

abbrev pub shape_at : SceneView → ℕ → Option Shape
shape_at s node = slice_get (shapes_of s) node

-- the fields of a node, or none if there is no such node
abbrev pub rows_at : SceneView → ℕ → List FieldRowView
rows_at s node = option_map_or rows_of (shape_at s node) []

-- the plain name of a field: from the table of fields, or as a Script declares it
abbrev pub field_name : SceneView → End → List ℕ
field_name s end =
    unwrap_or
    (option_map (λ (e : FieldRowView). e.name) (slice_get (rows_at s end.node) end.field)) []

-- the fields that the node declares
abbrev pub declared_at : SceneView → ℕ → List DeclaredField
declared_at s node =
    option_map_or (λ (n : SceneNode). numbered_fields n.node_type n.declared)
    (slice_get s.nodes node) []

abbrev pub nodes_in : Option Value → List ℕ
nodes_in (Some (MFNode nodes)) = nodes
nodes_in _ = []

-- the list `children` of a grouping node
abbrev pub children_in : SceneView → ℕ → Option FieldRow → List ℕ
children_in s node None = []
children_in s node (Some row) = nodes_in (value_at s node row.number)

abbrev pub children_of : SceneView → ℕ → List ℕ
children_of s node =
    children_in s node
    (option_and_then (λ t. row_named 0 (codes "children") (rows t)) (type_at s node))

-- the label of a node; without a name of its own, `N` and its number
abbrev pub label_or : ℕ → Option (List ℕ) → List ℕ
label_or node (Some name) = name
label_or node None = codes "N" ++ decimal node

unfoldable pub label_of : SceneView → ℕ → List ℕ
label_of s node =
    label_or node (option_and_then (λ (n : SceneNode). n.label) (slice_get s.nodes node))

-- the DEF name of a node, if the name is its label
abbrev pub name_at : SceneView → ℕ → Option (List ℕ)
name_at s node = option_and_then (λ (n : SceneNode). n.label) (slice_get s.nodes node)

-- what a node keeps of a field
abbrev pub kept : FieldRowView → Option Value → Option Value
kept e value = if is_kept e.access e.field_type then value else None

abbrev pub fields_of : SceneNode → Fields
fields_of n = record {
  values = map (λ p. kept p.0 p.1) (zip (rows_of (shape_of n)) n.values);
  position = record { at = None };
}

-- what each node keeps before any event
unfoldable pub state_of : SceneView → List Fields
state_of s = map fields_of s.nodes
