-- The kept fields of a node, as bytes (our choice).
use Rattle.std.specs.Prelude.{ℕ, ◌==◌, ◌&&◌, pos, Bool, true, false, List, [], Option, Some, None, int_lt, if◌then◌else◌}
use Rattle.std.specs.List.{flat_map}
use Rattle.byte_codec.specs.Codec.{Codec, ◌>>?◌, only_if, rows_at, rows_fit}
use Rattle.x3d_values.specs.declared.field_type.FieldType.{FieldType}
use Rattle.x3d_values.specs.declared.field_type.FieldType.TheVariants as types
use Rattle.x3d_values.specs.declared.field_type.Access.{Access}
use Rattle.x3d_values.specs.declared.field_type.Access.TheVariants.{InputOnly, OutputOnly, InputOutput, InitializeOnly}
use Rattle.x3d_values.specs.declared.node_type.NodeType.{NodeType}
use Rattle.x3d_values.specs.declared.node_type.NodeType.TheVariants.{TimeSensor}
use Rattle.x3d_values.specs.declared.value.Value.{Value}
use Rattle.x3d_values.specs.declared.value.Value.TheVariants.{SFTime}
use Rattle.snapshot_codec.specs.declared.kept.KeptField.{KeptField}
use Rattle.snapshot_codec.specs.declared.kept.KeptField.TheVariants.{Absent, Interval, Typed}
use Rattle.snapshot_codec.specs.Values.{value_text, value_at, value_fits}

-- -- which fields a snapshot holds

-- all but node fields and rotations
abbrev pub has_bytes : FieldType → Bool
has_bytes types.SFNode = false
has_bytes types.MFNode = false
has_bytes types.SFRotation = false
has_bytes _ = true

-- `cycleInterval` of a TimeSensor
abbrev pub is_interval : NodeType → ℕ → Bool
is_interval TimeSensor number = number == 1
is_interval _ number = false

-- what a snapshot holds of a node's field of that number: only inputOutput fields
abbrev pub kept_field : NodeType → ℕ → Access → FieldType → KeptField
kept_field node_type number InputOutput field_type =
    if is_interval node_type number then Interval
    else (if has_bytes field_type then Typed field_type else Absent)
kept_field node_type number InputOnly field_type = Absent
kept_field node_type number OutputOnly field_type = Absent
kept_field node_type number InitializeOnly field_type = Absent

-- ---- their bytes

abbrev pub kept_text : Option Value → List ℕ
kept_text None = []
kept_text (Some v) = value_text v

-- a time above 0
abbrev pub is_positive : Value → Bool
is_positive (SFTime t) = int_lt (pos 0) t
is_positive _ = false

unfoldable pub kept_at : KeptField → List ℕ → Option (Option Value × List ℕ)
kept_at Absent bytes = Some (None, bytes)
kept_at Interval bytes =
    value_at types.SFTime bytes >>? λ x. only_if is_positive x.0 >>? λ v. Some (Some v, x.1)
kept_at (Typed t) bytes = value_at t bytes >>? λ x. Some (Some x.0, x.1)

unfoldable pub kept_fits : KeptField → Option Value → Bool
kept_fits Absent None = true
kept_fits Absent (Some v) = false
kept_fits Interval None = false
kept_fits Interval (Some v) = value_fits types.SFTime v && is_positive v
kept_fits (Typed t) None = false
kept_fits (Typed t) (Some v) = value_fits t v

abbrev pub kept_codec : KeptField → Codec (Option Value)
kept_codec kept = record { write = kept_text; read = kept_at kept; fits = kept_fits kept }

-- what a node keeps of each field, in order
abbrev pub fields_codec : List KeptField → Codec (List (Option Value))
fields_codec fields = record {
  write = flat_map kept_text;
  read = rows_at kept_codec fields;
  fits = rows_fit kept_codec fields;
}
