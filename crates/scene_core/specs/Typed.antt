-- The values of a node's fields before any event (ISO/IEC 19775-1, field semantics).
use Rattle.std.specs.Prelude.{ℕ, ◌+◌, ◌++◌, pos, length, Bool, true, false, not, ◌||◌, nat_eq, int_lt, List, [], ◌∷◌, codes, Option, Some, None, Result, Ok, Err, slice_get, if◌then◌else◌}
use Rattle.std.specs.Option.{option_and_then}
use Rattle.std.specs.List.{list_all}
use Rattle.std.specs.Cmp.Lexicographic.{pointwise}
use denote.Enum.Bare.{sameb}
use Rattle.x3d_values.specs.contracts.node_type.NodeKind as kinds
use Rattle.x3d_values.specs.declared.field_type.Access.{Access}
use Rattle.x3d_values.specs.declared.field_type.FieldType.{FieldType}
use Rattle.x3d_values.specs.declared.node_type.NodeKind.{NodeKind}
use Rattle.x3d_values.specs.declared.node_type.NodeKind.TheVariants.{Child}
use Rattle.x3d_values.specs.declared.vector.Vec3.{Vec3}
use Rattle.x3d_values.specs.declared.value.Value.{Value}
use Rattle.x3d_values.specs.declared.value.Value.TheVariants.{SFTime, SFVec3f}
use Rattle.x3d_values.specs.Access.{is_initial}
use Rattle.x3d_values.specs.Defaults.{default_value}
use Rattle.x3d_values.specs.Nodes.{kind_of}
use Rattle.x3d_values.specs.Tables.{FieldRowView, rows}
use Rattle.classic_tree.specs.declared.tree.Declaration.{Declaration}
use Rattle.proto_flat.specs.declared.flat.FlatNode.{FlatNode}
use Rattle.proto_flat.specs.declared.flat.FlatField.{FlatField}
use Rattle.scene_values.specs.declared.fault.ValueFault.{ValueFault}
use Rattle.scene_values.specs.declared.fault.ValueFault.TheVariants as value_fault
use Rattle.scene_values.specs.Rotations.{checked_rotation}
use Rattle.scene_values.specs.Typing.{typed}
use Rattle.scene_core.specs.declared.fault.SceneFault.{SceneFault}
use Rattle.scene_core.specs.declared.fault.SceneFaultKind.TheVariants.{WrongType, ValueRange, RotationUnsupported, NotInitial, BadChild}
use Rattle.scene_core.specs.Faults.{fault, memory, ◌>>=◌}
use Rattle.scene_core.specs.Parts.{given, inner_nodes}
use Rattle.scene_core.specs.Shape.{declaration_entry, is_rotation, numbered_fields}

-- a fault of a value, on the line of its field
abbrev pub fault_at : ℕ → ValueFault → SceneFault
fault_at line value_fault.WrongType = fault WrongType line
fault_at line value_fault.ValueRange = fault ValueRange line
fault_at line value_fault.RotationUnsupported = fault RotationUnsupported line
fault_at line value_fault.Memory = memory

abbrev pub at_line : {A : Type 0} → ℕ → Result A ValueFault → Result A SceneFault
at_line line (Ok a) = Ok a
at_line line (Err e) = Err (fault_at line e)

-- a rotation is checked and dropped; any angle is allowed for `orientation`, which nothing uses
abbrev pub dropped_rotation : FieldRowView → FlatField → Result (Option Value) SceneFault
dropped_rotation e f =
    at_line f.line (checked_rotation f.value (pointwise nat_eq e.name (codes "orientation")))
    >>= λ _. Ok None

abbrev pub is_negative : Vec3 → Bool
is_negative size = int_lt size.x (pos 0) || int_lt size.y (pos 0) || int_lt size.z (pos 0)

-- the ranges of single fields: a cycle is longer than 0, and a Box has no negative size
abbrev pub in_range : List ℕ → Value → Bool
in_range name (SFTime t) = not (pointwise nat_eq name (codes "cycleInterval")) || int_lt (pos 0) t
in_range name (SFVec3f size) = not (pointwise nat_eq name (codes "size")) || not (is_negative size)
in_range name _ = true

-- the node exists, and a field of that kind takes it
abbrev pub takes : Option NodeKind → Option FlatNode → Bool
takes (Some kind) (Some node) = sameb kinds.the_type (kind_of node.node_type) kind
takes None (Some node) = true
takes kind None = false

abbrev pub all_taken : Option NodeKind → List FlatNode → List ℕ → Bool
all_taken kind nodes inner = list_all (λ n. takes kind (slice_get nodes n)) inner

-- a typed value goes into a field of that access and kind, unless a fault prevents it; the first
-- fault in the order of the list is reported
abbrev pub accepted : List FlatNode → Access → Option NodeKind → FlatField → Value
    → Result (Option Value) SceneFault
accepted nodes access kind f value =
    if not (is_initial access)
    then Err (fault NotInitial f.line)
    else (if all_taken kind nodes (inner_nodes f.value)
    then Ok (Some value)
    else Err (fault BadChild f.line))

-- like `accepted`, for a field of a node type, some of which have ranges of their own
abbrev pub accepted_in_range : List FlatNode → FieldRowView → FlatField → Value
    → Result (Option Value) SceneFault
accepted_in_range nodes e f value =
    if in_range e.name value
    then accepted nodes e.access e.kind f value
    else Err (fault ValueRange f.line)

abbrev pub typed_value : List ℕ → FieldType → FlatField → Result Value SceneFault
typed_value numbers field_type f = at_line f.line (typed field_type f.value numbers)

abbrev pub given_value : List FlatNode → List ℕ → FieldRowView → FlatField
    → Result (Option Value) SceneFault
given_value nodes numbers e f =
    if is_rotation e.field_type
    then dropped_rotation e f
    else (typed_value numbers e.field_type f >>= accepted_in_range nodes e f)

abbrev pub default_of : FieldRowView → Option Value
default_of e = option_and_then (default_value e.field_type) e.default

-- what a field holds: the given value, or the default; none if the field holds no value
unfoldable pub field_value : List FlatNode → List ℕ → FieldRowView → Option FlatField
    → Result (Option Value) SceneFault
field_value nodes numbers e (Some f) = given_value nodes numbers e f
field_value nodes numbers e None = Ok (default_of e)

-- appends the values of these rows, numbered from `number` on
abbrev pub values_from : List FlatNode → List ℕ → List FlatField → ℕ → List FieldRowView
    → List (Option Value) → Result (List (Option Value)) SceneFault
values_from nodes numbers fields number [] made = Ok made
values_from nodes numbers fields number (e ∷ es) made =
    field_value nodes numbers e (given fields number) >>= λ value.
    values_from nodes numbers fields (number + 1) es (made ++ value ∷ [])

-- ---- fields that a Script declares: no rotation, any node, and no range but that of the type

abbrev pub no_rotation : FlatField → Result (Option Value) SceneFault
no_rotation f =
    at_line f.line (checked_rotation f.value true) >>= λ _. Err (fault RotationUnsupported f.line)

abbrev pub declared_given : List FlatNode → List ℕ → Declaration ℕ → FlatField
    → Result (Option Value) SceneFault
declared_given nodes numbers d f =
    if is_rotation d.field_type
    then no_rotation f
    else (typed_value numbers d.field_type f >>= accepted nodes d.access None f)

-- the field is given no value
abbrev pub declared_empty : Declaration ℕ → Result (Option Value) SceneFault
declared_empty d =
    if is_rotation d.field_type
    then Err (fault RotationUnsupported d.line)
    else Ok (default_of (declaration_entry d))

unfoldable pub declared_value : List FlatNode → List ℕ → Declaration ℕ → Option FlatField
    → Result (Option Value) SceneFault
declared_value nodes numbers d (Some f) = declared_given nodes numbers d f
declared_value nodes numbers d None = declared_empty d

-- appends the values of these declared fields, numbered from `number` on
abbrev pub declared_from : List FlatNode → List ℕ → List FlatField → ℕ → List (Declaration ℕ)
    → List (Option Value) → Result (List (Option Value)) SceneFault
declared_from nodes numbers fields number [] made = Ok made
declared_from nodes numbers fields number (d ∷ ds) made =
    declared_value nodes numbers d (given fields number) >>= λ value.
    declared_from nodes numbers fields (number + 1) ds (made ++ value ∷ [])

-- the values of a node's fields: those of its type in table order, then those that it declares
unfoldable pub values_of : List FlatNode → List ℕ → FlatNode
    → Result (List (Option Value)) SceneFault
values_of nodes numbers node =
    values_from nodes numbers node.fields 0 (rows node.node_type) [] >>=
    declared_from nodes numbers node.fields (length (rows node.node_type))
    (numbered_fields node.node_type node.interface)

-- ---- roots and helpers are child nodes

abbrev pub line_of : Option FlatNode → ℕ
line_of None = 0
line_of (Some node) = node.line

unfoldable pub child : List FlatNode → ℕ → Result (Unit {0}) SceneFault
child nodes n =
    if takes (Some Child) (slice_get nodes n)
    then Ok tt
    else Err (fault BadChild (line_of (slice_get nodes n)))

-- all are child nodes; the first that isn't one is the fault
abbrev pub all_children : List FlatNode → List ℕ → Result (Unit {0}) SceneFault
all_children nodes [] = Ok tt
all_children nodes (n ∷ ns) = child nodes n >>= λ _. all_children nodes ns
