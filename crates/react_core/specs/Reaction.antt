-- What a node does when an event arrives (ISO/IEC 19775-1, the node types of each component; depth,
-- order and what is marked are our choice).
use Rattle.std.specs.Prelude.{ℕ, ℤ, Bool, true, false, not, ◌==◌, List, [], ◌∷◌, Option, Some, None, map, if◌then◌else◌}
use Rattle.std.specs.Option.{option_map, option_and_then}
use denote.Enum.Bare.{sameb}
use Rattle.x3d_values.specs.contracts.node_type.NodeType.{the_type}
use Rattle.x3d_values.specs.declared.fields.Fields.{Fields}
use Rattle.x3d_values.specs.declared.node_type.NodeType.{NodeType}
use Rattle.x3d_values.specs.declared.node_type.NodeType.TheVariants.{TimeSensor, ScalarInterpolator, PositionInterpolator, PositionInterpolator2D, CoordinateInterpolator, BooleanSequencer, IntegerSequencer, BooleanFilter, BooleanToggle, BooleanTrigger, IntegerTrigger, TimeTrigger}
use Rattle.x3d_values.specs.declared.value.Value.{Value}
use Rattle.x3d_values.specs.declared.value.Value.TheVariants.{SFBool, SFInt32, SFTime}
use Rattle.x3d_values.specs.Kept.{field_value, with_value}
use Rattle.react_core.specs.declared.numbers.TheConstants.{KEY, KEY_VALUE, SET_FRACTION, VALUE_CHANGED, SEQUENCE_CHANGED, SET_BOOLEAN, INPUT_TRUE, INPUT_FALSE, INPUT_NEGATE, TOGGLE, SET_TRIGGER_TIME, TRIGGER_TRUE, INTEGER_KEY, TRIGGER_VALUE, TRIGGER_TIME}
use Rattle.react_core.specs.declared.outbox.SentEvent.{SentEvent}
use Rattle.react_core.specs.declared.sequence.Keyed.{Keyed}
use Rattle.react_core.specs.Access.{is_kept}
use Rattle.react_core.specs.Interpolation.{interpolated}
use Rattle.react_core.specs.Sequence.{step_after}
use Rattle.react_core.specs.Stored.{truth_of, integer_of, number_of, time_of, truths_of, integers_of, numbers_of}

-- what a node keeps after an event, and what it sends, in order
pub record Reaction : Type 0 where
  pub fields : Fields
  pub replies : List SentEvent

abbrev pub reply : ℕ → Value → SentEvent
reply field value = record { field = field; value = value }

-- the node keeps its fields and sends nothing
abbrev pub nothing : Fields → Reaction
nothing fields = record { fields = fields; replies = [] }

-- the node keeps these fields and sends these events
abbrev pub sends : Fields → List SentEvent → Reaction
sends fields replies = record { fields = fields; replies = replies }

-- any node, an inputOutput field: sets the field, sends it
abbrev pub keeps : Fields → ℕ → Value → Reaction
keeps fields field value = sends (with_value fields field value) (reply field value ∷ [])

-- what is done with a value; nothing if there is none
abbrev pub with_some : {X : Type 0} → Fields → Option X → (X → Reaction) → Reaction
with_some fields None does = nothing fields
with_some fields (Some x) does = does x

-- what is done at the input `wanted`; nothing at any other input
abbrev pub at_input : Fields → ℕ → ℕ → Reaction → Reaction
at_input fields input wanted reaction = if input == wanted then reaction else nothing fields

-- the value of a field, read as a value of a type
abbrev pub stored : {X : Type 0} → (Value → Option X) → Fields → ℕ → Option X
stored as_type fields field = option_and_then as_type (field_value fields field)

-- ---- interpolators

-- `set_fraction`: `value_changed`
abbrev pub interpolator_value : NodeType → Fields → Value → Option Value
interpolator_value node_type fields value =
    option_and_then (λ fraction.
    option_and_then (λ keys.
    option_and_then (λ values. interpolated node_type keys values fraction)
    (field_value fields KEY_VALUE))
    (stored numbers_of fields KEY))
    (number_of value)

abbrev pub interpolator : NodeType → Fields → ℕ → Value → Reaction
interpolator node_type fields input value =
    at_input fields input SET_FRACTION
    (with_some fields (interpolator_value node_type fields value)
    (λ changed. sends fields (reply VALUE_CHANGED changed ∷ [])))

-- ---- sequencers

-- sets the position, sends `value_changed`
abbrev pub steps_to : Fields → Keyed → Reaction
steps_to fields step =
    sends (record fields { position = record { at = Some step.at } })
    (reply SEQUENCE_CHANGED step.value ∷ [])

-- `set_fraction`, `next` TRUE, `previous` TRUE
abbrev pub sequencer : Fields → ℕ → Value → Option (List Value) → Reaction
sequencer fields input value values =
    with_some fields (option_and_then (step_after fields input value) values) (steps_to fields)

-- ---- event utilities

-- `set_boolean`: `inputTrue` TRUE or `inputFalse` FALSE, then `inputNegate` with the negation
abbrev pub filter : Fields → ℕ → Value → Reaction
filter fields input value =
    at_input fields input SET_BOOLEAN (with_some fields (truth_of value) (λ truth.
    sends fields
    (reply (if truth then INPUT_TRUE else INPUT_FALSE) (SFBool truth)
    ∷ reply INPUT_NEGATE (SFBool (not truth))
    ∷ [])))

-- `set_boolean` TRUE: flips `toggle`, sends it; FALSE nothing
abbrev pub toggle : Fields → ℕ → Value → Reaction
toggle fields input value =
    at_input fields input SET_BOOLEAN (with_some fields (truth_of value) (λ truth.
    if truth
    then with_some fields (stored truth_of fields TOGGLE)
    (λ now. keeps fields TOGGLE (SFBool (not now)))
    else nothing fields))

-- `set_triggerTime`: `triggerTrue` TRUE
abbrev pub boolean_trigger : Fields → ℕ → Value → Reaction
boolean_trigger fields input value =
    at_input fields input SET_TRIGGER_TIME (with_some fields (time_of value)
    (λ time. sends fields (reply TRIGGER_TRUE (SFBool true) ∷ [])))

-- `set_boolean` TRUE: `triggerValue` with `integerKey`; FALSE nothing (our choice)
abbrev pub integer_trigger : Fields → ℕ → Value → Reaction
integer_trigger fields input value =
    at_input fields input SET_BOOLEAN (with_some fields (truth_of value) (λ truth.
    if truth
    then with_some fields (stored integer_of fields INTEGER_KEY)
    (λ key. sends fields (reply TRIGGER_VALUE (SFInt32 key) ∷ []))
    else nothing fields))

-- `set_boolean`: `triggerTime` with the event's time
abbrev pub time_trigger : Fields → ℕ → Value → ℤ → Reaction
time_trigger fields input value time =
    at_input fields input SET_BOOLEAN (with_some fields (truth_of value)
    (λ truth. sends fields (reply TRIGGER_TIME (SFTime time) ∷ [])))

-- ---- all nodes

abbrev pub is_interpolator : NodeType → Bool
is_interpolator ScalarInterpolator = true
is_interpolator PositionInterpolator = true
is_interpolator PositionInterpolator2D = true
is_interpolator CoordinateInterpolator = true
is_interpolator _ = false

-- what a node does at an event that sets no field
abbrev pub answer : NodeType → Fields → ℕ → Value → ℤ → Reaction
answer ScalarInterpolator fields input value time =
    interpolator ScalarInterpolator fields input value
answer PositionInterpolator fields input value time =
    interpolator PositionInterpolator fields input value
answer PositionInterpolator2D fields input value time =
    interpolator PositionInterpolator2D fields input value
answer CoordinateInterpolator fields input value time =
    interpolator CoordinateInterpolator fields input value
answer BooleanSequencer fields input value time =
    sequencer fields input value (option_map (map SFBool) (stored truths_of fields KEY_VALUE))
answer IntegerSequencer fields input value time =
    sequencer fields input value (option_map (map SFInt32) (stored integers_of fields KEY_VALUE))
answer BooleanFilter fields input value time = filter fields input value
answer BooleanToggle fields input value time = toggle fields input value
answer BooleanTrigger fields input value time = boolean_trigger fields input value
answer IntegerTrigger fields input value time = integer_trigger fields input value
answer TimeTrigger fields input value time = time_trigger fields input value time
answer _ fields input value time = nothing fields

-- the rules of a TimeSensor aren't given here
abbrev pub is_time_sensor : NodeType → Bool
is_time_sensor node_type = sameb the_type node_type TimeSensor

-- what a node does at an event
unfoldable pub reaction : NodeType → Fields → ℕ → Value → ℤ → Reaction
reaction node_type fields input value time =
    if is_time_sensor node_type then nothing fields
    else (if is_kept node_type input value then keeps fields input value
    else answer node_type fields input value time)
