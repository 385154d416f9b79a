-- The ranges of one node: the events that it receives and the events that it sends (ISO/IEC
-- 19775-1, field semantics; the ranges are our choice). A node has the fields of its type, then
-- those that it declares if it is a Script. cascade_world defines what it keeps of them.
use Rattle.std.specs.Prelude.{ℕ, ◌++◌, Bool, false, ◌&&◌, List, Option, slice_get}
use Rattle.std.specs.List.{list_all}
use Rattle.std.specs.Option.{option_map, option_map_or}
use Rattle.x3d_values.specs.declared.node_type.NodeType.{NodeType}
use Rattle.x3d_values.specs.declared.value.Value.{Value}
use Rattle.x3d_values.specs.Access.{sends}
use Rattle.x3d_values.specs.Tables.{FieldRowView, rows}
use Rattle.react_core.specs.declared.outbox.SentEvent.{SentEvent}
use Rattle.snapshot_codec.specs.Trace.{typed_fits}
use Rattle.snapshot_codec.specs.Values.{value_fits}
pub use Rattle.cascade_world.specs.Fits.{values_fit, position_fits, fields_fit}

-- ---- events

-- the row of a node's field
abbrev pub row_at : NodeType → List FieldRowView → ℕ → Option FieldRowView
row_at node_type declared field = slice_get (rows node_type ++ declared) field

-- the field may receive the value: it is of the field's type, in the range of the type
abbrev pub event_fits : NodeType → List FieldRowView → ℕ → Value → Bool
event_fits node_type declared field value =
    typed_fits
    (option_map (λ (row : FieldRowView). row.field_type) (row_at node_type declared field))
    value

-- the field may send the value: the field is an output, and the value is of its type, in the range
-- of the type
abbrev pub sent_fits : NodeType → List FieldRowView → ℕ → Value → Bool
sent_fits node_type declared field value =
    option_map_or (λ (row : FieldRowView). sends row.access && value_fits row.field_type value)
    (row_at node_type declared field) false

abbrev pub replies_fit : NodeType → List FieldRowView → List SentEvent → Bool
replies_fit node_type declared replies =
    list_all (λ (reply : SentEvent). sent_fits node_type declared reply.field reply.value) replies
