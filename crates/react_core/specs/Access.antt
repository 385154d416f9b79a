-- Which fields an event sets, and by which fields a node sends (ISO/IEC 19775-1, field semantics).
use Rattle.std.specs.Prelude.{ℕ, Bool, true, false, not, ◌&&◌, List, Option, slice_get}
use Rattle.std.specs.Option.{option_map, option_map_or}
use Rattle.std.specs.List.{list_all}
use denote.Enum.Bare.{sameb}
use Rattle.x3d_values.specs.contracts.field_type.FieldType.{the_type}
pub use Rattle.x3d_values.specs.Access.{is_exposed, sends as is_sender}
use Rattle.x3d_values.specs.declared.field_type.FieldType.{FieldType}
use Rattle.x3d_values.specs.declared.node_type.NodeType.{NodeType}
use Rattle.x3d_values.specs.declared.table.FieldRow.{FieldRow}
use Rattle.x3d_values.specs.declared.value.Value.{Value}
use Rattle.x3d_values.specs.declared.value.Value.TheVariants.{SFNode, MFNode}
use Rattle.react_core.specs.declared.outbox.SentEvent.{SentEvent}
use Rattle.x3d_values.specs.Tables.{rows, numbered, row_named}
use Rattle.x3d_values.specs.Values.{type_of}

-- the field with that number, if the node has it
abbrev pub row_at : NodeType → ℕ → Option FieldRow
row_at node_type number = option_map (numbered number) (slice_get (rows node_type) number)

-- the number of the field with that name
abbrev pub number_of_name : NodeType → List ℕ → Option ℕ
number_of_name node_type name = option_map (λ row. row.number) (row_named 0 name (rows node_type))

abbrev pub are_same : FieldType → FieldType → Bool
are_same one other = sameb the_type one other

-- node values aren't sent
abbrev pub names_nodes : Value → Bool
names_nodes (SFNode _) = true
names_nodes (MFNode nodes) = true
names_nodes _ = false

-- an event sets a field: an inputOutput field of the value's type that isn't a node field
abbrev pub is_kept : NodeType → ℕ → Value → Bool
is_kept node_type input value =
    option_map_or
    (λ row. is_exposed row.access
    && (are_same row.field_type (type_of value) && not (names_nodes value)))
    (row_at node_type input)
    false

-- a field by which the node sends: outputOnly or inputOutput
abbrev pub is_output : NodeType → ℕ → Bool
is_output node_type field =
    option_map_or (λ row. is_sender row.access) (row_at node_type field) false

-- all events leave by outputs of the node
abbrev pub leave_by_outputs : NodeType → List SentEvent → Bool
leave_by_outputs node_type replies = list_all (λ reply. is_output node_type reply.field) replies
