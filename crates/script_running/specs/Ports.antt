-- Which fields of its node are the inputs and outputs of a script (ISO/IEC 19775-1, Script: its
-- interface), and which call an event at a field is.
use Rattle.std.specs.Prelude.{ℕ, ℤ, ◌+◌, Bool, false, ◌&&◌, ◌==◌, List, [], ◌∷◌, Option, Some, None, slice_get, slice_index_or, if◌then◌else◌}
use Rattle.std.specs.Option.{option_and_then, option_map_or}
use denote.Enum.Bare.{sameb}
use Rattle.x3d_values.specs.contracts.field_type.FieldType as types
use Rattle.x3d_values.specs.declared.script.Kind.{Kind}
use Rattle.x3d_values.specs.declared.value.Value.{Value}
use Rattle.x3d_values.specs.declared.value.Value.TheVariants.{SFBool}
use Rattle.x3d_values.specs.Tables.{FieldRowView}
use Rattle.x3d_values.specs.Values.{type_of}
use Rattle.react_core.specs.declared.outbox.SentEvent as node
use Rattle.script_slots.specs.declared.reply.Reply.{Reply}
use Rattle.script_host.specs.Behaviour.{Call, Receive}
use Rattle.script_host.specs.Events.{takes_event}
use Rattle.script_host.specs.Interface.{inputs, outputs}
use Rattle.script_running.specs.Values.{numbers_of, value_of}

-- the numbers of the fields that are a script's inputs and outputs, in the order of its kind's
-- inputs and outputs
pub record PortsView : Type 0 where
  pub inputs : List ℕ
  pub outputs : List ℕ

-- -- an event reaches a field

-- the place, counted from n, at which the field first appears
abbrev pub place_from : ℕ → ℕ → List ℕ → Option ℕ
place_from field n [] = None
place_from field n (other ∷ others) =
    if other == field then Some n else place_from field (n + 1) others

-- the number of the input that the field is
abbrev pub input_at : PortsView → ℕ → Option ℕ
input_at ports field = place_from field 0 ports.inputs

abbrev pub is_of_type : Kind → ℕ → Value → Bool
is_of_type kind input value =
    option_map_or (λ (e : FieldRowView). sameb types.the_type e.field_type (type_of value))
    (slice_get (inputs kind) input) false

-- the value is of the type of that input, and in the range of the type
abbrev pub takes : Kind → ℕ → Value → Bool
takes kind input value =
    is_of_type kind input value && takes_event kind input (numbers_of value)

abbrev pub call_by : Kind → Value → ℕ → Option Call
call_by kind value input =
    if takes kind input value then Some (Receive input (numbers_of value)) else None

-- the call that an event is; no call if the field is not an input of the script, or doesn't take
-- such a value
abbrev pub call_at : Kind → PortsView → ℕ → Value → Option Call
call_at kind ports field value = option_and_then (call_by kind value) (input_at ports field)

-- ---- a script sends

-- the value that is sent by an output of the kind
abbrev pub value_from : Option FieldRowView → List ℤ → Value
value_from (Some e) numbers = value_of e.field_type numbers
value_from None numbers = SFBool false

-- what the node sends if its script sends this reply
abbrev pub reply_of : Kind → PortsView → Reply → node.SentEvent
reply_of kind ports r = record {
  field = slice_index_or ports.outputs r.output 0;
  value = value_from (slice_get (outputs kind) r.output) r.numbers;
}
