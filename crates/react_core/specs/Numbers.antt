-- The numbers of the fields that take part in reactions belong to the fields' names.
use Rattle.std.specs.Prelude.{◌≡◌, ℕ, List, Some, codes}
use Rattle.x3d_values.specs.declared.node_type.NodeType.{NodeType}
use Rattle.x3d_values.specs.declared.node_type.NodeType.TheVariants.{BooleanFilter, BooleanToggle, BooleanTrigger, IntegerTrigger, TimeTrigger}
use Rattle.react_core.specs.declared.numbers.TheConstants.{KEY, KEY_VALUE, SET_FRACTION, VALUE_CHANGED, NEXT, PREVIOUS, SEQUENCE_FRACTION, SEQUENCE_CHANGED, SET_BOOLEAN, INPUT_TRUE, INPUT_FALSE, INPUT_NEGATE, TOGGLE, SET_TRIGGER_TIME, TRIGGER_TRUE, INTEGER_KEY, TRIGGER_VALUE, TRIGGER_TIME}
use Rattle.react_core.specs.Access.{number_of_name}

-- the field of that name has that number
abbrev pub IsNumbered : NodeType → List ℕ → ℕ → Type 0
IsNumbered node_type name number = number_of_name node_type name ≡ Some number

pub record Interpolates (node_type : NodeType) : Type 0 where
  pub key : IsNumbered node_type (codes "key") KEY
  pub key_value : IsNumbered node_type (codes "keyValue") KEY_VALUE
  pub set_fraction : IsNumbered node_type (codes "set_fraction") SET_FRACTION
  pub value_changed : IsNumbered node_type (codes "value_changed") VALUE_CHANGED

pub record Sequences (node_type : NodeType) : Type 0 where
  pub key : IsNumbered node_type (codes "key") KEY
  pub key_value : IsNumbered node_type (codes "keyValue") KEY_VALUE
  pub next : IsNumbered node_type (codes "next") NEXT
  pub previous : IsNumbered node_type (codes "previous") PREVIOUS
  pub set_fraction : IsNumbered node_type (codes "set_fraction") SEQUENCE_FRACTION
  pub value_changed : IsNumbered node_type (codes "value_changed") SEQUENCE_CHANGED

pub record Filters : Type 0 where
  pub set_boolean : IsNumbered BooleanFilter (codes "set_boolean") SET_BOOLEAN
  pub input_true : IsNumbered BooleanFilter (codes "inputTrue") INPUT_TRUE
  pub input_false : IsNumbered BooleanFilter (codes "inputFalse") INPUT_FALSE
  pub input_negate : IsNumbered BooleanFilter (codes "inputNegate") INPUT_NEGATE

pub record Triggers : Type 0 where
  pub toggle_boolean : IsNumbered BooleanToggle (codes "set_boolean") SET_BOOLEAN
  pub toggle : IsNumbered BooleanToggle (codes "toggle") TOGGLE
  pub set_trigger_time : IsNumbered BooleanTrigger (codes "set_triggerTime") SET_TRIGGER_TIME
  pub trigger_true : IsNumbered BooleanTrigger (codes "triggerTrue") TRIGGER_TRUE
  pub integer_boolean : IsNumbered IntegerTrigger (codes "set_boolean") SET_BOOLEAN
  pub integer_key : IsNumbered IntegerTrigger (codes "integerKey") INTEGER_KEY
  pub trigger_value : IsNumbered IntegerTrigger (codes "triggerValue") TRIGGER_VALUE
  pub time_boolean : IsNumbered TimeTrigger (codes "set_boolean") SET_BOOLEAN
  pub trigger_time : IsNumbered TimeTrigger (codes "triggerTime") TRIGGER_TIME
