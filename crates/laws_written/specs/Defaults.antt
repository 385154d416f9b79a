-- Which fields are left out of the text of a scene (ISO/IEC 19775-1, the node types of each
-- component).
use Rattle.std.specs.Prelude.{◌≡◌, true, Some}
use Rattle.x3d_values.specs.declared.default.FieldDefault.{FieldDefault}
use Rattle.x3d_values.specs.declared.field_type.FieldType.{FieldType}
use Rattle.x3d_values.specs.declared.value.Value.{Value}
use Rattle.x3d_values.specs.Defaults.{default_value}
use Rattle.x3d_values.specs.Values.{type_of}
use Rattle.scene_text.specs.Defaulted.{is_default}

-- a value that is left out is the field's default
abbrev pub LeftOutAreDefaults : Type 0
LeftOutAreDefaults =
    (default : FieldDefault) (v : Value)
    → is_default default v ≡ true → default_value (type_of v) default ≡ Some v

-- a field's default is left out
abbrev pub DefaultsAreLeftOut : Type 0
DefaultsAreLeftOut =
    (t : FieldType) (default : FieldDefault) (v : Value)
    → default_value t default ≡ Some v → is_default default v ≡ true
