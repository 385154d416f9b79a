-- The fields of nodes: those of a type, followed by those that a Script declares (ISO/IEC 19775-1,
-- Script).
use Rattle.std.specs.Prelude.{ℕ, ◌-◌, ◌++◌, Bool, ◌&&◌, not, List, Option, Some, None, length, map, take, if◌then◌else◌}
use Rattle.x3d_values.specs.Ranges.{max_fields}
use denote.Enum.Bare.{sameb}
use Rattle.x3d_values.specs.contracts.field_type.FieldType as types
use Rattle.x3d_values.specs.declared.default.FieldDefault.{FieldDefault}
use Rattle.x3d_values.specs.declared.default.FieldDefault.TheVariants.{Empty}
use Rattle.x3d_values.specs.declared.field_type.Access.{Access}
use Rattle.x3d_values.specs.declared.field_type.FieldType.{FieldType}
use Rattle.x3d_values.specs.declared.field_type.FieldType.TheVariants.{SFRotation}
use Rattle.x3d_values.specs.declared.node_type.NodeType.{NodeType}
use Rattle.x3d_values.specs.Access.{is_initial}
use Rattle.x3d_values.specs.Tables.{FieldRowView, rows}
use Rattle.classic_tree.specs.declared.tree.Declaration.{Declaration}
use Rattle.scene_core.specs.declared.row.DeclaredField.{DeclaredField}
use Rattle.scene_core.specs.declared.row.NodeField.{NodeField}

-- the fields of a node: those of its type, followed by those that a Script declares
pub record Shape : Type 0 where
  pub node_type : NodeType
  pub declared : List FieldRowView

abbrev pub rows_of : Shape → List FieldRowView
rows_of s = rows s.node_type ++ s.declared

-- ---- a declared field

abbrev pub is_rotation : FieldType → Bool
is_rotation field_type = sameb types.the_type field_type SFRotation

-- a declared field that a scene may give a value to holds the empty value of its type by default
abbrev pub declared_default : Access → FieldType → Option FieldDefault
declared_default access field_type =
    if is_initial access && not (is_rotation field_type) then Some Empty else None

-- declared node fields take any node
abbrev pub declared_entry : DeclaredField → FieldRowView
declared_entry d = record {
  name = d.name;
  access = d.access;
  field_type = d.field_type;
  default = declared_default d.access d.field_type;
  kind = None;
}

abbrev pub declared_by : Declaration ℕ → DeclaredField
declared_by d = record { name = d.name; access = d.access; field_type = d.field_type }

abbrev pub declaration_entry : Declaration ℕ → FieldRowView
declaration_entry d = declared_entry (declared_by d)

-- ---- numbers have 16 bits: a scene has no node with more fields (specs/Wide)

abbrev pub most_declared : NodeType → ℕ
most_declared t = max_fields - length (rows t)

-- the declared fields that have numbers
abbrev pub numbered_fields : {A : Type 0} → NodeType → List A → List A
numbered_fields t declared = take (most_declared t) declared

abbrev pub shape_by : NodeType → List DeclaredField → Shape
shape_by t declared =
    record { node_type = t; declared = map declared_entry (numbered_fields t declared) }

-- ---- a field as the code has it

abbrev pub row_entry : NodeField → FieldRowView
row_entry r = record {
  name = r.name.now;
  access = r.access;
  field_type = r.field_type;
  default = r.default;
  kind = r.kind;
}
