-- The fields of a scene's nodes that are written (ISO/IEC 19775-1, object model, fields), by their
-- numbers: those that hold another value than their default, and those that a Script declares and
-- that hold a value.
use Rattle.std.specs.Prelude.{ℕ, ◌+◌, if◌then◌else◌, List, [], ◌∷◌, ◌++◌, length, map, Option, Some, None}
use Rattle.x3d_values.specs.declared.default.FieldDefault.{FieldDefault}
use Rattle.x3d_values.specs.declared.field_type.Access.{Access}
use Rattle.x3d_values.specs.declared.field_type.FieldType.{FieldType}
use Rattle.x3d_values.specs.declared.fields.Fields.{Fields}
use Rattle.x3d_values.specs.declared.node_type.NodeType.{NodeType}
use Rattle.x3d_values.specs.declared.value.Value.{Value}
use Rattle.x3d_values.specs.declared.value.Value.TheVariants.{SFNode, MFNode}
use Rattle.x3d_values.specs.Tables.{FieldRowView, rows}
use Rattle.classic_tree.specs.declared.tree.RawValue.{RawValue}
use Rattle.classic_tree.specs.declared.tree.RawValue.TheVariants as raw
use Rattle.proto_flat.specs.declared.flat.FlatField.{FlatField}
use Rattle.laws_documents.specs.Signatures.{Signature}
use Rattle.scene_core.specs.declared.row.DeclaredField.{DeclaredField}
use Rattle.scene_core.specs.Scene.{SceneView, declared_at, type_at}
use Rattle.scene_text.specs.Defaulted.{is_default}
use Rattle.scene_text.specs.Raw.{plain}
use Rattle.scene_text.specs.Tree.{PlanView, held_value, present_value}

-- ---- which fields

-- for what a field holds, as it is written (scene_text), routes and names do not matter
abbrev pub without_routes : SceneView → List Fields → PlanView
without_routes s state = record { scene = s; routes = []; state = state; named = [] }

abbrev pub value_now : SceneView → List Fields → ℕ → ℕ → Access → FieldType → Option Value
value_now s state n number access field_type =
    present_value (without_routes s state) n number access field_type

abbrev pub declared_value : SceneView → List Fields → ℕ → ℕ → DeclaredField → Option Value
declared_value s state n number d = held_value (without_routes s state) n number d

-- a field's number and what the field holds
pub record HeldField : Type 0 where
  pub number : ℕ
  pub value : Value

abbrev pub held_by : ℕ → Option Value → List HeldField
held_by number None = []
held_by number (Some value) = record { number = number; value = value } ∷ []

-- None if a field can hold no value, or holds its default
abbrev pub unless_default : Option FieldDefault → Option Value → Option Value
unless_default (Some default) (Some value) = if is_default default value then None else Some value
unless_default _ _ = None

-- the fields held by node n among these rows, numbered from this number on
abbrev pub rows_held : SceneView → List Fields → ℕ → ℕ → List FieldRowView → List HeldField
rows_held s state n number [] = []
rows_held s state n number (e ∷ others) =
    held_by number
    (unless_default e.default (value_now s state n number e.access e.field_type))
    ++ rows_held s state n (number + 1) others

abbrev pub declared_held : SceneView → List Fields → ℕ → ℕ → List DeclaredField → List HeldField
declared_held s state n number [] = []
declared_held s state n number (d ∷ others) =
    held_by number (declared_value s state n number d)
    ++ declared_held s state n (number + 1) others

-- the fields of its type, then those that it declares
abbrev pub fields_held : SceneView → List Fields → ℕ → NodeType → List HeldField
fields_held s state n t =
    rows_held s state n 0 (rows t) ++ declared_held s state n (length (rows t)) (declared_at s n)

-- ---- as they are written

-- a value in which nodes are written as their numbers in the scene
abbrev pub written_value : Value → RawValue ℕ
written_value (SFNode (Some n)) = raw.Node n
written_value (MFNode (n ∷ others)) = raw.NodeList (n ∷ others)
written_value value = plain value

abbrev pub written_field : HeldField → FlatField
written_field h = record { line = 0; number = h.number; value = written_value h.value }

-- the written fields of node n, which has this type
abbrev pub fields_by_type : SceneView → List Fields → ℕ → Option NodeType → List FlatField
fields_by_type s state n None = []
fields_by_type s state n (Some t) = map written_field (fields_held s state n t)

abbrev pub written_fields : SceneView → List Fields → ℕ → List FlatField
written_fields s state n = fields_by_type s state n (type_at s n)

-- a field that the node declares
abbrev pub declared_signature : DeclaredField → Signature
declared_signature d =
    record { line = 0; name = d.name; access = d.access; field_type = d.field_type }

abbrev pub written_interface : SceneView → ℕ → List Signature
written_interface s n = map declared_signature (declared_at s n)

-- -- the helpers, if there are any, are the children of one more node, a Switch

-- the number of the field `children` of a Switch
abbrev pub switch_children : ℕ
switch_children = 3

abbrev pub children_field : List ℕ → FlatField
children_field ns = record { line = 0; number = switch_children; value = raw.NodeList ns }
