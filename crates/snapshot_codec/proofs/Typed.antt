-- The type of a value that fits a field.
use Rattle.std.proofs.Common.{◌≡◌, ◌&&◌, refl}
use denote.Enum.Bare.{sameb}
use Rattle.x3d_values.specs.contracts.field_type.FieldType as enum
use Rattle.x3d_values.specs.declared.field_type.FieldType.{FieldType}
use Rattle.x3d_values.specs.declared.field_type.FieldType.TheVariants as types
use Rattle.x3d_values.specs.declared.value.Value.{Value}
use Rattle.x3d_values.specs.declared.value.Value.TheVariants as value
use Rattle.x3d_values.specs.Values.{type_of}
use Rattle.snapshot_codec.specs.Values.{value_fits}

-- no value is a rotation
no_rotation : (v : Value) → value_fits types.SFRotation v ≡ (sameb enum.the_type types.SFRotation (type_of v) && value_fits (type_of v) v)
unfolding value_fits
no_rotation (value.SFBool x) = refl
no_rotation (value.SFInt32 x) = refl
no_rotation (value.SFFloat x) = refl
no_rotation (value.SFTime x) = refl
no_rotation (value.SFString x) = refl
no_rotation (value.SFVec2f x) = refl
no_rotation (value.SFVec3f x) = refl
no_rotation (value.SFColor x) = refl
no_rotation (value.SFNode x) = refl
no_rotation (value.MFBool x) = refl
no_rotation (value.MFInt32 x) = refl
no_rotation (value.MFFloat x) = refl
no_rotation (value.MFTime x) = refl
no_rotation (value.MFString x) = refl
no_rotation (value.MFVec2f x) = refl
no_rotation (value.MFVec3f x) = refl
no_rotation (value.MFColor x) = refl
no_rotation (value.MFNode x) = refl

-- it is the field's, and its range
pub by_type : (t : FieldType) (v : Value) → value_fits t v ≡ (sameb enum.the_type t (type_of v) && value_fits (type_of v) v)
unfolding value_fits
by_type types.SFBool (value.SFBool x) = refl
by_type types.SFBool _ = refl
by_type types.SFInt32 (value.SFInt32 x) = refl
by_type types.SFInt32 _ = refl
by_type types.SFFloat (value.SFFloat x) = refl
by_type types.SFFloat _ = refl
by_type types.SFTime (value.SFTime x) = refl
by_type types.SFTime _ = refl
by_type types.SFString (value.SFString x) = refl
by_type types.SFString _ = refl
by_type types.SFVec2f (value.SFVec2f x) = refl
by_type types.SFVec2f _ = refl
by_type types.SFVec3f (value.SFVec3f x) = refl
by_type types.SFVec3f _ = refl
by_type types.SFColor (value.SFColor x) = refl
by_type types.SFColor _ = refl
by_type types.MFBool (value.MFBool x) = refl
by_type types.MFBool _ = refl
by_type types.MFInt32 (value.MFInt32 x) = refl
by_type types.MFInt32 _ = refl
by_type types.MFFloat (value.MFFloat x) = refl
by_type types.MFFloat _ = refl
by_type types.MFTime (value.MFTime x) = refl
by_type types.MFTime _ = refl
by_type types.MFString (value.MFString x) = refl
by_type types.MFString _ = refl
by_type types.MFVec2f (value.MFVec2f x) = refl
by_type types.MFVec2f _ = refl
by_type types.MFVec3f (value.MFVec3f x) = refl
by_type types.MFVec3f _ = refl
by_type types.MFColor (value.MFColor x) = refl
by_type types.MFColor _ = refl
by_type types.SFNode (value.SFNode x) = refl
by_type types.SFNode _ = refl
by_type types.MFNode (value.MFNode x) = refl
by_type types.MFNode _ = refl
by_type types.SFRotation v = no_rotation v
