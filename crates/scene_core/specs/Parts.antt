-- The nodes in the node fields of a node (ISO/IEC 19775-1, scene graph).
use Rattle.std.specs.Prelude.{ℕ, ◌+◌, ◌==◌, ◌++◌, List, [], ◌∷◌, Option, length, map, slice_get, if◌then◌else◌}
use Rattle.std.specs.List.{find}
use Rattle.std.specs.Option.{option_map_or}
use Rattle.x3d_values.specs.declared.field_type.FieldType.{FieldType}
use Rattle.x3d_values.specs.Access.{holds_nodes}
use Rattle.x3d_values.specs.Tables.{FieldRowView, rows}
use Rattle.classic_tree.specs.declared.tree.RawValue.{RawValue}
use Rattle.classic_tree.specs.declared.tree.RawValue.TheVariants.{Node, NodeList}
use Rattle.proto_flat.specs.declared.flat.FlatNode.{FlatNode}
use Rattle.proto_flat.specs.declared.flat.FlatField.{FlatField}
use Rattle.scene_core.specs.Shape.{declaration_entry, numbered_fields}

-- what a node gives to the field with that number
abbrev pub given : List FlatField → ℕ → Option FlatField
given fields number = find (λ (f : FlatField). f.number == number) fields

-- the nodes in a value, even if the value hasn't its field's type
abbrev pub inner_nodes : RawValue ℕ → List ℕ
inner_nodes (Node n) = n ∷ []
inner_nodes (NodeList ns) = ns
inner_nodes _ = []

-- the nodes in a field of that type to which a node gives this value
abbrev pub parts_in : FieldType → Option FlatField → List ℕ
parts_in field_type given =
    if holds_nodes field_type
    then option_map_or (λ (f : FlatField). inner_nodes f.value) given []
    else []

-- the nodes in the fields of these rows, numbered from `number` on
abbrev pub parts_from : List FlatField → ℕ → List FieldRowView → List ℕ
parts_from fields number [] = []
parts_from fields number (e ∷ es) =
    parts_in e.field_type (given fields number) ++ parts_from fields (number + 1) es

-- the nodes in the node fields of a node: first the fields of its type in table order, then the
-- fields that it declares
abbrev pub parts : FlatNode → List ℕ
parts node =
    parts_from node.fields 0 (rows node.node_type)
    ++ parts_from node.fields (length (rows node.node_type))
    (map declaration_entry (numbered_fields node.node_type node.interface))

-- like `parts`, for the node with that number
unfoldable pub parts_of : List FlatNode → ℕ → List ℕ
parts_of nodes n = option_map_or parts (slice_get nodes n) []
