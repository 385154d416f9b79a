-- Faults of fields, of roots and of helpers in an expanded document, each told by a field or a node
-- alone (ISO/IEC 19775-1, field semantics). They are those of a scene (scene_core), all of them
-- instead of the first.
use Rattle.std.specs.Prelude.{ℕ, ◌-◌, Bool, true, false, nat_lt, max, List, [], ◌∷◌, ◌++◌, length, Option, Some, None, Result, Ok, Err, slice_get, if◌then◌else◌}
use Rattle.std.specs.List.{flat_map}
use Rattle.x3d_values.specs.declared.node_type.NodeKind.{NodeKind}
use Rattle.x3d_values.specs.declared.node_type.NodeKind.TheVariants.{Child}
use Rattle.x3d_values.specs.declared.value.Value.{Value}
use Rattle.x3d_values.specs.Tables.{FieldRowView, rows}
use Rattle.classic_tree.specs.declared.tree.Declaration.{Declaration}
use Rattle.proto_flat.specs.declared.flat.Flat.{Flat}
use Rattle.proto_flat.specs.declared.flat.FlatField.{FlatField}
use Rattle.proto_flat.specs.declared.flat.FlatNode.{FlatNode}
use Rattle.scene_core.specs.declared.fault.SceneFault.{SceneFault}
use Rattle.scene_core.specs.declared.fault.SceneFaultKind.{SceneFaultKind}
use Rattle.scene_core.specs.declared.fault.SceneFaultKind.TheVariants.{RotationUnsupported, BadChild, Memory}
use Rattle.scene_core.specs.Faults.{◌>>=◌}
use Rattle.scene_core.specs.Shape.{is_rotation}
use Rattle.scene_core.specs.Parts.{inner_nodes}
use Rattle.scene_core.specs.Typed.{accepted, given_value, line_of, takes, typed_value}
use Rattle.scene_faults.specs.Blame.{of_scene}
use Rattle.scene_faults.specs.declared.blame.Blame.{Blame}

abbrev pub says_memory : SceneFaultKind → Bool
says_memory Memory = true
says_memory _ = false

abbrev pub is_bad_child : SceneFaultKind → Bool
is_bad_child BadChild = true
is_bad_child _ = false

-- the blames for a fault, or none
abbrev pub blames_in : {A : Type 0} → (SceneFault → List Blame) → Result A SceneFault → List Blame
blames_in blames (Ok a) = []
blames_in blames (Err fault) = blames fault

abbrev pub itself : SceneFault → List Blame
itself fault = of_scene fault.kind fault.line ∷ []

-- ---- a field that is given a value

-- of a declared rotation the declaration is at fault
abbrev pub declared_value : List FlatNode → Declaration ℕ → FlatField
    → Result (Option Value) SceneFault
declared_value nodes d f =
    if is_rotation d.field_type then Ok None
    else (typed_value [] d.field_type f >>= accepted nodes d.access None f)

-- a node that stands in the field's value is at fault instead of the field; a node that the value
-- names by USE stands before the field
abbrev pub inner_blames : List FlatNode → Option NodeKind → ℕ → ℕ → List Blame
inner_blames nodes kind line n =
    if takes kind (slice_get nodes n) then []
    else of_scene BadChild (max line (line_of (slice_get nodes n))) ∷ []

abbrev pub value_blames : List FlatNode → Option NodeKind → FlatField → SceneFault → List Blame
value_blames nodes kind f fault =
    if is_bad_child fault.kind
    then flat_map (inner_blames nodes kind f.line) (inner_nodes f.value)
    else itself fault

abbrev pub by_row : List FlatNode → Option FieldRowView → FlatField → List Blame
by_row nodes None f = []
by_row nodes (Some row) f =
    blames_in (value_blames nodes row.kind f) (given_value nodes [] row f)

abbrev pub by_declaration : List FlatNode → Option (Declaration ℕ) → FlatField → List Blame
by_declaration nodes None f = []
by_declaration nodes (Some d) f = blames_in itself (declared_value nodes d f)

-- a field of the node's type, or one that it declares
abbrev pub field_blames : List FlatNode → FlatNode → FlatField → List Blame
field_blames nodes node f =
    if nat_lt f.number (length (rows node.node_type))
    then by_row nodes (slice_get (rows node.node_type) f.number) f
    else by_declaration nodes
    (slice_get node.interface (f.number - length (rows node.node_type))) f

-- ---- nodes

-- a Script can't declare a rotation
abbrev pub rotation_blames : Declaration ℕ → List Blame
rotation_blames d =
    if is_rotation d.field_type then of_scene RotationUnsupported d.line ∷ [] else []

abbrev pub node_blames : List FlatNode → FlatNode → List Blame
node_blames nodes node =
    flat_map (field_blames nodes node) node.fields ++ flat_map rotation_blames node.interface

-- a root or a helper that is no child node
abbrev pub child_blames : List FlatNode → ℕ → List Blame
child_blames nodes n = inner_blames nodes (Some Child) 0 n

-- all faults of fields, declarations, roots and helpers
abbrev pub scene_blames : Flat → List Blame
scene_blames flat =
    flat_map (node_blames flat.nodes) flat.nodes
    ++ flat_map (child_blames flat.nodes) flat.roots
    ++ flat_map (child_blames flat.nodes) flat.helpers
