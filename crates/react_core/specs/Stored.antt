-- Values of one type (ISO/IEC 19775-1, field types).
use Rattle.std.specs.Prelude.{ℤ, Bool, is_some, List, Option, Some, None}
use Rattle.x3d_values.specs.declared.vector.Vec2.{Vec2}
use Rattle.x3d_values.specs.declared.vector.Vec3.{Vec3}
use Rattle.x3d_values.specs.declared.value.Value.{Value}
use Rattle.x3d_values.specs.declared.value.Value.TheVariants.{SFBool, SFInt32, SFFloat, SFTime, SFVec2f, SFVec3f, SFColor, SFNode, MFBool, MFInt32, MFFloat, MFVec2f, MFVec3f}

abbrev pub truth_of : Value → Option Bool
truth_of (SFBool truth) = Some truth
truth_of _ = None

abbrev pub integer_of : Value → Option ℤ
integer_of (SFInt32 number) = Some number
integer_of _ = None

abbrev pub number_of : Value → Option ℤ
number_of (SFFloat number) = Some number
number_of _ = None

abbrev pub time_of : Value → Option ℤ
time_of (SFTime time) = Some time
time_of _ = None

abbrev pub truths_of : Value → Option (List Bool)
truths_of (MFBool truths) = Some truths
truths_of _ = None

abbrev pub integers_of : Value → Option (List ℤ)
integers_of (MFInt32 numbers) = Some numbers
integers_of _ = None

abbrev pub numbers_of : Value → Option (List ℤ)
numbers_of (MFFloat numbers) = Some numbers
numbers_of _ = None

abbrev pub points_of : Value → Option (List Vec2)
points_of (MFVec2f points) = Some points
points_of _ = None

abbrev pub vectors_of : Value → Option (List Vec3)
vectors_of (MFVec3f vectors) = Some vectors
vectors_of _ = None

-- the value, if it is neither a string nor a list
abbrev pub plain_of : Value → Option Value
plain_of (SFBool truth) = Some (SFBool truth)
plain_of (SFInt32 number) = Some (SFInt32 number)
plain_of (SFFloat number) = Some (SFFloat number)
plain_of (SFTime time) = Some (SFTime time)
plain_of (SFVec2f vector) = Some (SFVec2f vector)
plain_of (SFVec3f vector) = Some (SFVec3f vector)
plain_of (SFColor color) = Some (SFColor color)
plain_of (SFNode node) = Some (SFNode node)
plain_of _ = None

-- the value is neither a string nor a list
abbrev pub is_plain : Value → Bool
is_plain value = is_some (plain_of value)
