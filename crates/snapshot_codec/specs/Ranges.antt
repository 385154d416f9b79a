-- Values in the ranges of their own types (ISO/IEC 19775-1, field types; the ranges are our
-- choice).
use Rattle.std.specs.Prelude.{Bool}
use Rattle.x3d_values.specs.declared.value.Value.{Value}
use Rattle.x3d_values.specs.Values.{type_of}
use Rattle.snapshot_codec.specs.Values.{value_fits}

-- the value is in the range of a field of its own type
abbrev pub is_in_range : Value → Bool
is_in_range value = value_fits (type_of value) value
