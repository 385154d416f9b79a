-- Fields of a node by name (ISO/IEC 19775-1, object model, fields): those of its type, and after
-- them those that a Script declares.
use Rattle.std.specs.Prelude.{ℕ, ◌+◌, if◌then◌else◌, List, [], ◌∷◌, length, map, Option, Some, None, option_map}
use Rattle.std.specs.Str.{bytes_eq}
use denote.Enum.Bare.{sameb}
use Rattle.x3d_values.specs.declared.field_type.Access.{Access}
use Rattle.x3d_values.specs.declared.field_type.FieldType.{FieldType}
use Rattle.x3d_values.specs.declared.node_type.NodeType.{NodeType}
use Rattle.x3d_values.specs.declared.node_type.NodeType.TheVariants.{Script}
use Rattle.x3d_values.specs.contracts.node_type.NodeType as node_types
use Rattle.x3d_values.specs.declared.table.FieldRow.{FieldRow}
use Rattle.x3d_values.specs.Tables.{rows, row_named}
use Rattle.classic_tree.specs.declared.tree.Declaration.{Declaration}

-- a field by its number among those of a node
pub record KnownField : Type 0 where
  pub number : ℕ
  pub access : Access
  pub field_type : FieldType

-- ---- of a node type

abbrev pub of_row : FieldRow → KnownField
of_row row = record { number = row.number; access = row.access; field_type = row.field_type }

abbrev pub of_type : NodeType → List ℕ → Option KnownField
of_type node_type name = option_map of_row (row_named 0 name (rows node_type))

-- ---- of a Script

-- a declaration without its value
pub record Signature : Type 0 where
  pub line : ℕ
  pub name : List ℕ
  pub access : Access
  pub field_type : FieldType

abbrev pub signature : {N : Type 0} → Declaration N → Signature
signature d = record { line = d.line; name = d.name; access = d.access; field_type = d.field_type }

abbrev pub signatures : {N : Type 0} → List (Declaration N) → List Signature
signatures ds = map signature ds

abbrev pub of_signature : ℕ → Signature → KnownField
of_signature number s = record { number = number; access = s.access; field_type = s.field_type }

-- the first field of that name; the first of the list has the number `number`
abbrev pub numbered_from : ℕ → List ℕ → List Signature → Option KnownField
numbered_from number name [] = None
numbered_from number name (s ∷ others) =
    if bytes_eq s.name name then Some (of_signature number s)
    else numbered_from (number + 1) name others

-- only a Script declares fields between its braces
abbrev pub own_interface : NodeType → List Signature → List Signature
own_interface node_type declared =
    if sameb node_types.the_type node_type Script then declared else []

-- the first field of that name, numbered after the fields of the type
abbrev pub of_declared : NodeType → List Signature → List ℕ → Option KnownField
of_declared node_type declared name =
    numbered_from (length (rows node_type)) name (own_interface node_type declared)
