-- Faults of the routes of an expanded document, each told by its own ends (ISO/IEC 19775-1, ROUTE).
-- They are those of a scene (route_core), all of them instead of the first.
use Rattle.std.specs.Prelude.{ℕ, Bool, true, false, not, ◌||◌, List, [], ◌∷◌, Option, Some, None, Result, Ok, Err, slice_get, is_some, if◌then◌else◌}
use Rattle.std.specs.List.{flat_map}
use Rattle.std.specs.Option.{option_and_then}
use Rattle.std.specs.Str.{bytes_eq}
use denote.Enum.Bare.{sameb}
use Rattle.x3d_values.specs.contracts.field_type.FieldType as types
use Rattle.x3d_values.specs.declared.field_type.FieldType.{FieldType}
use Rattle.x3d_values.specs.declared.table.FieldRow.{FieldRow}
use Rattle.x3d_values.specs.Access.{receives, sends, holds_nodes, is_exposed}
use Rattle.x3d_values.specs.Aliases.{source_by, target_by}
use Rattle.x3d_values.specs.Tables.{row_named, rows}
use Rattle.classic_tree.specs.declared.tree.Declaration.{Declaration}
use Rattle.proto_flat.specs.declared.flat.Flat.{Flat}
use Rattle.proto_flat.specs.declared.flat.FlatEnd.{FlatEnd}
use Rattle.proto_flat.specs.declared.flat.FlatEnd.TheVariants.{At, NoNode, NoField, WrongWay}
use Rattle.proto_flat.specs.declared.flat.FlatNode.{FlatNode}
use Rattle.proto_flat.specs.declared.flat.FlatRoute.{FlatRoute}
use Rattle.route_core.specs.declared.fault.RouteFaultKind.{RouteFaultKind}
use Rattle.route_core.specs.declared.fault.RouteFaultKind.TheVariants.{NoSuchNode, NoSuchField, NotOutput, NotInput, TypesDiffer, NodeEvent}
use Rattle.scene_core.specs.Shape.{is_rotation}
use Rattle.scene_faults.specs.Blame.{of_route}
use Rattle.scene_faults.specs.declared.blame.Blame.{Blame}
use Rattle.scene_faults.specs.declared.ends.EndFault.{EndFault}
use Rattle.scene_faults.specs.declared.ends.NamedField.{NamedField}

-- ---- fields of a node by name

abbrev pub of_row : FieldRow → NamedField
of_row row = record { access = row.access; field_type = row.field_type }

-- the first declaration of that name
abbrev pub declared : List ℕ → List (Declaration ℕ) → Option NamedField
declared name [] = None
declared name (d ∷ ds) =
    if bytes_eq d.name name
    then Some (record { access = d.access; field_type = d.field_type })
    else declared name ds

abbrev pub row_or : Option FieldRow → Option NamedField → Option NamedField
row_or (Some row) other = Some (of_row row)
row_or None other = other

-- a field of the node's type, or else one that it declares
abbrev pub field_named : FlatNode → List ℕ → Option NamedField
field_named node name =
    row_or (row_named 0 name (rows node.node_type)) (declared name node.interface)

abbrev pub if_kept : Bool → NamedField → Option NamedField
if_kept rotations f = if rotations || not (is_rotation f.field_type) then Some f else None

abbrev pub if_exposed : NamedField → Option NamedField
if_exposed f = if is_exposed f.access then Some f else None

-- without rotations, unless they are asked for too
abbrev pub exact : Bool → FlatNode → List ℕ → Option NamedField
exact rotations node name = option_and_then (if_kept rotations) (field_named node name)

abbrev pub exposed : Bool → FlatNode → List ℕ → Option NamedField
exposed rotations node name = option_and_then if_exposed (exact rotations node name)

-- the field that a source or a destination names
abbrev pub source_field : Bool → FlatNode → List ℕ → Option NamedField
source_field rotations node name =
    source_by (exact rotations node) (exposed rotations node) name

abbrev pub target_field : Bool → FlatNode → List ℕ → Option NamedField
target_field rotations node name =
    target_by (exact rotations node) (exposed rotations node) name

-- ---- ends

abbrev pub plain : {A : Type 0} → RouteFaultKind → Result A EndFault
plain kind = Err (record { kind = kind; turns = false })

-- no such field; it turns if there is one, which is a rotation
abbrev pub missing : {A : Type 0} → Bool → Result A EndFault
missing turns = Err (record { kind = NoSuchField; turns = turns })

abbrev pub usable : Bool → RouteFaultKind → FieldType → Result FieldType EndFault
usable allowed kind field_type = if allowed then Ok field_type else plain kind

abbrev pub output_by : Bool → Option NamedField → Result FieldType EndFault
output_by turns None = missing turns
output_by turns (Some f) = usable (sends f.access) NotOutput f.field_type

abbrev pub input_by : Bool → Option NamedField → Result FieldType EndFault
input_by turns None = missing turns
input_by turns (Some f) = usable (receives f.access) NotInput f.field_type

abbrev pub output_of : List ℕ → Option FlatNode → Result FieldType EndFault
output_of name None = plain NoSuchNode
output_of name (Some node) =
    output_by (is_some (source_field true node name)) (source_field false node name)

abbrev pub input_of : List ℕ → Option FlatNode → Result FieldType EndFault
input_of name None = plain NoSuchNode
input_of name (Some node) =
    input_by (is_some (target_field true node name)) (target_field false node name)

abbrev pub source_of : List FlatNode → FlatEnd → Result FieldType EndFault
source_of nodes (At node name) = output_of name (slice_get nodes node)
source_of nodes NoNode = plain NoSuchNode
source_of nodes NoField = plain NoSuchField
source_of nodes WrongWay = plain NotOutput

abbrev pub target_of : List FlatNode → FlatEnd → Result FieldType EndFault
target_of nodes (At node name) = input_of name (slice_get nodes node)
target_of nodes NoNode = plain NoSuchNode
target_of nodes NoField = plain NoSuchField
target_of nodes WrongWay = plain NotInput

-- ---- routes

-- both hold values of one type, which has no nodes
abbrev pub joined : FieldType → FieldType → Result (Unit {0}) EndFault
joined source target =
    if sameb types.the_type source target
    then (if holds_nodes source then plain NodeEvent else Ok tt)
    else plain TypesDiffer

-- the source's fault, the target's, or that of both together
abbrev pub joined_ends : Result FieldType EndFault → Result FieldType EndFault
    → Result (Unit {0}) EndFault
joined_ends (Err fault) target = Err fault
joined_ends (Ok source) (Err fault) = Err fault
joined_ends (Ok source) (Ok target) = joined source target

abbrev pub blames_at : ℕ → Result (Unit {0}) EndFault → List Blame
blames_at line (Ok _) = []
blames_at line (Err fault) = of_route fault.kind fault.turns line ∷ []

abbrev pub route_blames : List FlatNode → FlatRoute → List Blame
route_blames nodes r =
    blames_at r.line (joined_ends (source_of nodes r.source) (target_of nodes r.target))

-- all faults of routes
abbrev pub all_routes : Flat → List Blame
all_routes flat = flat_map (route_blames flat.nodes) flat.routes
