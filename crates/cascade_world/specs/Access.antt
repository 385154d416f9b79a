-- The fields of a node that an event sets, and those by which a node sends, including the fields
-- that a Script declares (ISO/IEC 19775-1, field semantics).
use Rattle.std.specs.Prelude.{ℕ, Bool, false, not, ◌&&◌, Option, slice_get}
use Rattle.std.specs.Option.{option_map_or}
use Rattle.x3d_values.specs.declared.value.Value.{Value}
use Rattle.x3d_values.specs.Tables.{FieldRowView}
use Rattle.x3d_values.specs.Values.{type_of}
use Rattle.react_core.specs.Access.{are_same, is_exposed, is_sender, names_nodes}
use Rattle.scene_core.specs.Shape.{Shape, rows_of}

-- a field by which a node sends: an outputOnly or an inputOutput one
abbrev pub is_output : Shape → ℕ → Bool
is_output shape field =
    option_map_or (λ row. is_sender row.access) (slice_get (rows_of shape) field) false

-- an event with this value sets the field that it comes to: an inputOutput field of the value's
-- type that is not a node field
abbrev pub is_set : Value → Option FieldRowView → Bool
is_set value field =
    option_map_or
    (λ row. is_exposed row.access
    && (are_same row.field_type (type_of value) && not (names_nodes value)))
    field
    false
